-- An accepted opening: its record, whose used places are the records lent.
-- Assumes nothing.
use Prim.Native.Nat.{ℕ, ◌≤◌}
use native.Mathlib.Omega.{arith}
use mathlib.Core.Path.{◌≡◌, refl, sym, ap, ◌∙◌}
use mathlib.Core.Bool.{true, cond, ◌&&◌}
use mathlib.Core.List.{List, []}
use lib.Dec.{leb, eqb}
use lib.IntN.{ℤ}
use lib.ListN.{length}
use borrow.Author.Tests.{eqb-true, leb-true}
use Rattle.desk.specs.declared.watch.Watch.{Watch}
use Rattle.desk.specs.Limit.{is_limit}
use Rattle.desk.specs.Watch.{most_watched, list_fault}
use Rattle.desk.specs.Record.{opened_with, sound}
use Rattle.desk.specs.Opening.{open_code, refused_opening, opening}
use Rattle.desk.proofs.general.Cases.{by_cases, both}
use Rattle.desk.proofs.watching.Places.{take_places, unused_places}
use Rattle.desk.proofs.watching.WatchLists.{ids_ok, fault_ids}
use Rattle.desk.proofs.records.SoundLaws.{parts_sound}

-- what an accepted opening has tested, and its record
pub record Accepted (watch : List Watch) (down up : ℤ) : Type 0 where
  pub few : length watch ≤ most_watched
  pub down_limit : is_limit down ≡ true
  pub up_limit : is_limit up ≡ true
  pub ids : ids_ok watch ≡ true
  pub desk : (opening (length watch) watch down up).desk ≡ opened_with (length watch) watch down up

-- an opening answers the code of its tests
pub opening_code : (n : ℕ) (watch : List Watch) (down up : ℤ) → (opening n watch down up).code ≡ open_code n watch down up
unfolding opening refused_opening
opening_code n watch down up =
    by_cases
    (λ b. eqb (open_code n watch down up) 0 ≡ b
    → (cond b (record { code = 0; desk = opened_with n watch down up }) (refused_opening (open_code n watch down up))).code ≡ open_code n watch down up)
    (eqb (open_code n watch down up) 0)
    (λ _ zero-code. sym (eqb-true (open_code n watch down up) 0 zero-code))
    (λ _ _. refl)
    refl

tests_passed : (watch : List Watch) (down up : ℤ) → open_code (length watch) watch down up ≡ 0 → Accepted watch down up
unfolding open_code opening
tests_passed watch down up h =
    by_cases (λ b. leb (length watch) most_watched ≡ b → cond b (cond (is_limit down && is_limit up) (list_fault [] watch) 30) 35 ≡ 0 → Accepted watch down up) (leb (length watch) most_watched)
    (λ _ few.
    by_cases (λ b. (is_limit down && is_limit up) ≡ b → cond b (list_fault [] watch) 30 ≡ 0 → Accepted watch down up) (is_limit down && is_limit up)
    (λ _ limits e.
    let l = both (is_limit down) _ limits in
    record {
      few = leb-true (length watch) most_watched few;
      down_limit = l.0;
      up_limit = l.1;
      ids = fault_ids watch e;
      desk = ap (λ (n : ℕ). (cond (eqb n 0) (record { code = 0; desk = opened_with (length watch) watch down up }) (refused_opening n)).desk) h;
    })
    (λ _ _ e. let impossible : ⊥ = omega arith in absurd impossible)
    refl)
    (λ _ _ e. let impossible : ⊥ = omega arith in absurd impossible)
    refl
    h

pub open_accepted : (watch : List Watch) (down up : ℤ) → (opening (length watch) watch down up).code ≡ 0 → Accepted watch down up
open_accepted watch down up h = tests_passed watch down up (sym (opening_code (length watch) watch down up) ∙ h)

pub opened_sound : (watch : List Watch) (down up : ℤ) → (opening (length watch) watch down up).code ≡ 0 → sound (opening (length watch) watch down up).desk ≡ true
unfolding opened_with
opened_sound watch down up h =
    let a = open_accepted watch down up h in
    let used = take_places most_watched watch a.few in
    ap sound a.desk
    ∙ parts_sound (opened_with (length watch) watch down up)
    (record {
      is_open = refl;
      few = a.few;
      down = a.down_limit;
      up = a.up_limit;
      ids = ap ids_ok used ∙ a.ids;
      zeros = unused_places most_watched watch a.few;
      override = refl;
    })
