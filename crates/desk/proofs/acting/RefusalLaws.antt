-- The order of refusals in a call: what an accepted call has passed, and which codes a refused one has.
-- Assumes nothing.
use Rattle.std.proofs.lemmas.Grind.{common_steps}
use Prim.Native.Nat.{◌≤◌}
use native.Mathlib.Omega.{arith}
use mathlib.Core.Path.{◌≡◌, refl, subst}
use mathlib.Core.Bool.{true, false}
use Rattle.desk.specs.declared.call.Call.{Call}
use Rattle.desk.specs.declared.record.Desk.{Desk}
use Rattle.desk.specs.Record.{sound}
use Rattle.desk.specs.Refusal.{raises_again, clears_none, limit_fits, id_fits, call_fault}

-- what a call has passed that is not refused
pub record Accepted (c : Call) (d : Desk) : Type 0 where
  pub is_sound : sound d ≡ true
  pub first : raises_again c d ≡ false
  pub some_stands : clears_none c d ≡ false
  pub limit : limit_fits c ≡ true
  pub id : id_fits c d ≡ true

module _ (c : Call) (d : Desk) where
  pub accepted_call : call_fault c d ≡ 0 → Accepted c d
  unfolding call_fault
  accepted_call e =
      record {
        is_sound = grind (arith, common_steps);
        first = grind (arith, common_steps);
        some_stands = grind (arith, common_steps);
        limit = grind (arith, common_steps);
        id = grind (arith, common_steps);
      }

  -- a code is 0 or one of a refusal, and 38 comes of the record alone
  pub fault_code : (call_fault c d ≡ 0 → ⊥) → 2 ≤ call_fault c d
  unfolding call_fault
  fault_code h = grind (arith, common_steps)

  pub fault_sound : sound d ≡ true → call_fault c d ≡ 38 → ⊥
  unfolding call_fault
  fault_sound s e = grind (arith, common_steps)

  pub fault_none : Accepted c d → call_fault c d ≡ 0
  unfolding call_fault
  fault_none a = rw (a.is_sound, a.first, a.some_stands, a.limit, a.id) refl

-- a call that is known to be a certain one
pub accepted_as : {c c' : Call} (d : Desk) → c ≡ c' → call_fault c d ≡ 0 → Accepted c' d
accepted_as {c} {c'} d e h = accepted_call c' d (subst (λ (k : Call). call_fault k d ≡ 0) e h)
