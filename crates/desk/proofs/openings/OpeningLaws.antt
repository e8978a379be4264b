-- Opening: its refusals' numbers, and that the desk's places say the same as the list.
-- Assumes nothing.
use Rattle.std.specs.Prelude.{Result, Ok, Err, is_ok}
use native.Mathlib.Omega.{arith}
use lib.Dec.{eqb, ltb}
use mathlib.Core.Path.{◌≡◌, refl, sym, ◌∙◌}
use Prim.Native.Nat.{ℕ, ◌<◌, ◌≤◌}
use mathlib.Core.Bool.{Bool, true, false}
use mathlib.Core.List.{List}
use borrow.Author.Tests.{ltb-true, ltb-false, lt-leb}
use lib.IntN.{ℤ}
use lib.ListN.{length, take}
use Rattle.desk.specs.declared.watch.Watch.{Watch}
use Rattle.desk.specs.declared.done.OpeningRefusal.{OpeningRefusal}
use Rattle.desk.specs.Codes.{opening_refusal_code, opening_check_code}
use Rattle.desk.specs.Watch.{padded}
use Rattle.desk.proofs.watching.Places.{take_places}
use Rattle.desk.specs.Opening.{open_code, refused_opening, opening}

-- a refusal has 30 or more, and tests that refuse nothing 0
pub opening_refusal_large : (e : OpeningRefusal) → 2 ≤ opening_refusal_code e
opening_refusal_large OpeningRefusal.Limit = omega arith
opening_refusal_large OpeningRefusal.List = omega arith
opening_refusal_large OpeningRefusal.IdRange = omega arith
opening_refusal_large OpeningRefusal.IdAgain = omega arith

pub passed_is : (r : Result (Unit {0}) OpeningRefusal) → is_ok r ≡ eqb (opening_check_code r) 0
passed_is (Ok u) = refl
passed_is (Err OpeningRefusal.Limit) = refl
passed_is (Err OpeningRefusal.List) = refl
passed_is (Err OpeningRefusal.IdRange) = refl
passed_is (Err OpeningRefusal.IdAgain) = refl

-- more records than places
pub opening_over : (n : ℕ) (l : List Watch) (d u : ℤ) → 32 < n → opening n l d u ≡ refused_opening 35
unfolding opening open_code
opening_over n l d u h = rw (lt-leb n 32 h)

-- opening with the places that a list was copied into is opening with the list
pub opening_copied : (l : List Watch) (d u : ℤ) → opening (length l) (take (length l) (padded l)) d u ≡ opening (length l) l d u
opening_copied l d u = by_test (ltb 32 (length l)) refl
  where
    by_test : (t : Bool) → ltb 32 (length l) ≡ t → opening (length l) (take (length l) (padded l)) d u ≡ opening (length l) l d u
    by_test true e = opening_over (length l) _ d u (ltb-true 32 _ e) ∙ sym (opening_over (length l) l d u (ltb-true 32 _ e))
    by_test false e = rw (take_places 32 l (ltb-false 32 _ e))
