-- How many steps a run has left at most: one for each byte, one for the opening and one for the end. It falls at each step.
-- Assumes nothing.
use Prim.Native.Nat.{ℕ, zero, suc, ◌+◌, ◌-◌, ◌≤◌, ◌<◌}
use mathlib.Core.Path.{◌≡◌, refl, sym, ap, ◌∙◌}
use mathlib.Core.Bool.{Bool, true, false, cond}
use mathlib.Core.List.{List}
use native.Mathlib.Omega.{arith}
use lib.ListN.{length}
use Rattle.std.specs.declared.option.Option.TheVariants.{None, Some}
use Rattle.std.specs.declared.result.Result.TheVariants.{Ok, Err}
use Rattle.desk.specs.declared.call.Call.{Call}
use Rattle.strip.specs.declared.record.Record.{Record}
use Rattle.strip.specs.declared.run.Run.{Run}
use Rattle.strip.specs.Record.{Found, FoundBy, record_at}
use Rattle.strip.specs.Run.{with_limits, with_watch, with_desk, ended, silent, opened, performed, faulted, call_taken, end_taken, taken, met, stepped, run_after}
use Rattle.strip.proofs.records.Forward.{Forward, forward}
use Rattle.strip.proofs.running.RunLaws.{call_open, call_shut, end_open, end_shut}

-- by the offset, and the marks that a call came and that the run is over
abbrev pub left_at : List ℕ → ℕ → Bool → Bool → ℕ
left_at s at called over = cond over 0 (suc ((length s - at) + cond called 0 1))

abbrev pub steps_left : List ℕ → Run → ℕ
steps_left s r = left_at s r.at r.called r.over

-- ---- it falls
fewer : (k at next n : ℕ) → at < next → next ≤ n → suc ((n - next) + k) < suc ((n - at) + k)
fewer k at next n l h = omega (arith, l, h)

module _ (s : List ℕ) (r : Run) (o : r.over ≡ false) where
  abbrev Falls : Run → Type 0
  Falls next = steps_left s next < steps_left s r

  here : steps_left s r ≡ suc ((length s - r.at) + cond r.called 0 1)
  here = ap (λ b. cond b 0 (suc ((length s - r.at) + cond r.called 0 1))) o

  pub some_left : steps_left s r ≤ 0 → ⊥
  some_left h = omega (arith, here, h)

  over_falls : (next : Run) → next.over ≡ true → Falls next
  over_falls next e =
      let none : steps_left s next ≡ 0 = ap (λ b. left_at s next.at next.called b) e in
      omega (arith, none, here)

  on_falls : (next : Run) → r.at < next.at → next.at ≤ length s → next.over ≡ r.over → next.called ≡ r.called → Falls next
  on_falls next l h p q =
      let there : steps_left s next ≡ suc ((length s - next.at) + cond r.called 0 1) = ap (λ b. left_at s next.at b next.over) q ∙ ap (λ b. left_at s next.at r.called b) (p ∙ o) in
      let f : suc ((length s - next.at) + cond r.called 0 1) < suc ((length s - r.at) + cond r.called 0 1) = fewer (cond r.called 0 1) r.at next.at (length s) l h in
      omega (arith, there, here, f)

  performed_falls : (c : Call) (next : ℕ) → r.at < next → next ≤ length s → r.called ≡ true → Falls (performed c next r).run
  unfolding performed with_desk
  performed_falls c next l h e = on_falls (performed c next r).run l h refl (sym e)

  opened_falls : r.called ≡ false → Falls (opened r).run
  unfolding opened with_desk
  opened_falls e =
      let now : steps_left s r ≡ suc ((length s - r.at) + 1) = here ∙ ap (λ b. suc ((length s - r.at) + cond b 0 1)) e in
      go now (opened r).run.over
    where
      go : steps_left s r ≡ suc ((length s - r.at) + 1) → (b : Bool) → left_at s r.at true b < steps_left s r
      go now true = omega (arith, now)
      go now false = omega (arith, now)

  taken_falls : (found : Record) (next : ℕ) → (r.at < next) × (next ≤ length s) → Falls (taken found next r).run
  unfolding silent with_limits with_watch
  taken_falls (Record.Limits d u) next (l, h) = on_falls (with_limits d u next r) l h refl refl
  taken_falls (Record.Watch w) next (l, h) = on_falls (with_watch w next r) l h refl refl
  taken_falls (Record.Call c) next (l, h) = by_test r.called refl
    where
      by_test : (t : Bool) → r.called ≡ t → Falls (call_taken c next r).run
      by_test true e = rw (call_open r c next e) (performed_falls c next l h e)
      by_test false e = rw (call_shut r c next e) (opened_falls e)

  met_falls : (found : Found) → FoundBy (Forward s r.at) found → Falls (met found r).run
  unfolding silent faulted ended
  met_falls (Ok (Some d)) f = taken_falls d.found d.offset f
  met_falls (Ok None) f = by_test r.called refl
    where
      by_test : (t : Bool) → r.called ≡ t → Falls (end_taken r).run
      by_test true e = rw (end_open r e) (over_falls (ended r) refl)
      by_test false e = rw (end_shut r e) (opened_falls e)
  met_falls (Err at) f = over_falls (ended r) refl

  pub step_falls : Falls (stepped s r).run
  unfolding stepped
  step_falls = met_falls (record_at s r.at r.called) (forward s r.at r.called)

-- ---- so the run is over after so many steps
pub over_after : (n : ℕ) (s : List ℕ) (r : Run) → steps_left s r ≤ n → (run_after n s r).over ≡ true
unfolding run_after
over_after zero s r h = none r.over refl
  where
    none : (t : Bool) → r.over ≡ t → r.over ≡ true
    none true e = e
    none false e = absurd (some_left s r e h)
over_after (suc n) s r h = more r.over refl (λ e. over_after n s (stepped s r).run e)
  where
    more : (t : Bool) → r.over ≡ t → (steps_left s (stepped s r).run ≤ n → (run_after n s (stepped s r).run).over ≡ true) → (cond r.over r (run_after n s (stepped s r).run)).over ≡ true
    more true e f = ap (λ b. (cond b r (run_after n s (stepped s r).run)).over) e ∙ e
    more false e f = ap (λ b. (cond b r (run_after n s (stepped s r).run)).over) e ∙ f (omega (arith, step_falls s r e, h))
