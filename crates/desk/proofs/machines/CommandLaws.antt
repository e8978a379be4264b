-- Lists of commands: which are sendable, and what a machine is after them.
-- Assumes nothing.
use Prim.Native.Nat.{ℕ, ◌≤◌}
use native.Mathlib.Omega.{arith}
use mathlib.Core.Path.{◌≡◌, refl, ap, ◌∙◌}
use mathlib.Core.Bool.{true, not, ◌&&◌, ◌||◌}
use mathlib.Core.List.{List, [], ◌∷◌, ◌++◌}
use lib.IntN.{ℤ}
use lib.ListN.{length}
use Rattle.desk.specs.Limit.{is_limit}
use Rattle.desk.specs.Watch.{most_watched, is_id, all_ids}
use Rattle.desk.specs.Command.{Command, four_commands, listing}
use Rattle.desk.specs.Machine.{Machine, is_among, obey}
use Rattle.desk.proofs.general.Cases.{and_true}

-- ---- sendable: limits in their range, and at most 32 torrent IDs
abbrev pub FewIds : List ℕ → Type 0
FewIds ids = (all_ids ids ≡ true) × (length ids ≤ most_watched)

abbrev pub Sendable : Command → Type 0
Sendable (Command.set_down n) = is_limit n ≡ true
Sendable (Command.set_up n) = is_limit n ≡ true
Sendable (Command.start ids) = FewIds ids
Sendable (Command.stop ids) = FewIds ids

abbrev pub AllSendable : List Command → Type 0
AllSendable [] = Unit {0}
AllSendable (c ∷ cs) = Sendable c × AllSendable cs

pub one_id : (x : ℕ) → is_id x ≡ true → FewIds (x ∷ [])
unfolding all_ids
one_id x h = (and_true h refl, omega arith)

listing_sendable : (c : List ℕ → Command) (ids : List ℕ) → Sendable (c ids) → AllSendable (listing c ids)
unfolding listing
listing_sendable c [] h = tt
listing_sendable c (x ∷ xs) h = (h, tt)

append_sendable : (xs ys : List Command) → AllSendable xs → AllSendable ys → AllSendable (xs ++ ys)
append_sendable [] ys p q = q
append_sendable (a ∷ xs) ys p q = (p.0, append_sendable xs ys p.1 q)

-- ---- a machine after a list of commands
unfoldable pub obey_all : List Command → Machine → Machine
obey_all [] m = m
obey_all (c ∷ cs) m = obey_all cs (obey c m)

obey_all_append : (xs ys : List Command) (m : Machine) → obey_all (xs ++ ys) m ≡ obey_all ys (obey_all xs m)
unfolding obey_all
obey_all_append [] ys m = refl
obey_all_append (a ∷ xs) ys m = obey_all_append xs ys (obey a m)

obey_stop : (ids : List ℕ) (m : Machine) → obey_all (listing Command.stop ids) m ≡ obey (Command.stop ids) m
unfolding obey_all listing obey is_among
obey_stop [] m = refl
obey_stop (x ∷ xs) m = refl

obey_start : (ids : List ℕ) (m : Machine) → obey_all (listing Command.start ids) m ≡ obey (Command.start ids) m
unfolding obey_all listing obey is_among
obey_start [] m = refl
obey_start (x ∷ xs) m = refl

pub machine_path : (m n : Machine) → m.down ≡ n.down → m.up ≡ n.up → ((y : ℕ) → m.runs y ≡ n.runs y) → m ≡ n
machine_path m n p q r = λ i. record { down = p i; up = q i; runs = λ y. r y i }

-- ---- the commands of a raise or a clear
pub four_sendable : (down up : ℤ) (stops starts : List ℕ) → is_limit down ≡ true → is_limit up ≡ true → FewIds stops → FewIds starts
    → AllSendable (four_commands down up stops starts)
four_sendable down up stops starts p q r s = (
  p,
  (q, append_sendable (listing Command.stop stops) (listing Command.start starts) (listing_sendable Command.stop stops r) (listing_sendable Command.start starts s)),
)

pub four_obeyed : (down up : ℤ) (stops starts : List ℕ) (m : Machine)
    → obey_all (four_commands down up stops starts) m
    ≡ record { down = down; up = up; runs = λ y. is_among y starts || (not (is_among y stops) && m.runs y) }
unfolding obey_all obey
four_obeyed down up stops starts m =
    obey_all_append (listing Command.stop stops) (listing Command.start starts) _
    ∙ ap (obey_all (listing Command.start starts)) (obey_stop stops _)
    ∙ obey_start starts _
