-- A run's steps, one law for each way that a step goes.
-- Assumes nothing.
use Prim.Native.Nat.{ℕ}
use mathlib.Core.Path.{◌≡◌, refl, ap}
use mathlib.Core.Bool.{true, false, cond, not}
use lib.Dec.{eqb}
use lib.ListN.{take}
use Rattle.desk.specs.declared.call.Call.{Call}
use Rattle.desk.specs.Opening.{Opening, opening}
use Rattle.strip.specs.declared.run.Run.{Run}
use Rattle.strip.specs.Line.{open_text}
use Rattle.strip.specs.Run.{with_desk, ended, printing, silent, opened, performed, call_taken, end_taken}

-- what an opening returned, and the step
pub opened_is : (r : Run) (o : Opening) → o ≡ opening r.gathered.count (take r.gathered.count r.gathered.watch) r.down r.up
    → printing (open_text o.code) (with_desk o.desk (not (eqb o.code 0)) r.at r) ≡ opened r
unfolding opened
opened_is r o e = rw (← e) refl

-- a call and the end, on the open desk and before it is open
module _ (r : Run) where
  pub call_open : (c : Call) (next : ℕ) → r.called ≡ true → call_taken c next r ≡ performed c next r
  unfolding call_taken
  call_open c next e = ap (λ b. cond b (performed c next r) (opened r)) e

  pub call_shut : (c : Call) (next : ℕ) → r.called ≡ false → call_taken c next r ≡ opened r
  unfolding call_taken
  call_shut c next e = ap (λ b. cond b (performed c next r) (opened r)) e

  pub end_open : r.called ≡ true → end_taken r ≡ silent (ended r)
  unfolding end_taken
  end_open e = ap (λ b. cond b (silent (ended r)) (opened r)) e

  pub end_shut : r.called ≡ false → end_taken r ≡ opened r
  unfolding end_taken
  end_shut e = ap (λ b. cond b (silent (ended r)) (opened r)) e
