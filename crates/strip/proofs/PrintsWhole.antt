-- A run by steps prints what a strip prints.
-- Assumes nothing.
use Prim.Native.Nat.{ℕ, zero, suc, ◌+◌, ◌-◌, ◌≤◌, ◌<◌}
use mathlib.Core.Path.{◌≡◌, refl, sym, ap, ap₂, ◌∙◌, subst}
use mathlib.Core.Bool.{Bool, true, false, cond, not}
use mathlib.Core.List.{List, [], ◌∷◌, ◌++◌, append-nil}
use native.Mathlib.Omega.{arith}
use native.Mathlib.Nat.{not-suc-le-zero}
use lib.Dec.{eqb}
use lib.ListN.{length, drop}
use lib.Seq.{take-append_seam}
use Rattle.std.specs.declared.option.Option.TheVariants.{None, Some}
use Rattle.std.specs.declared.result.Result.TheVariants.{Ok, Err}
use Rattle.desk.specs.declared.watch.Watch.{Watch}
use Rattle.desk.specs.declared.call.Call.{Call}
use Rattle.desk.specs.Opening.{Opening, opening}
use Rattle.strip.specs.declared.record.Record.{Record}
use Rattle.strip.specs.declared.run.Run.{Run}
use Rattle.strip.specs.declared.run.Step.{Step}
use Rattle.strip.specs.Record.{Found, FoundBy, call_kind, record_at}
use Rattle.strip.specs.Answer.{answer}
use Rattle.strip.specs.Line.{open_text, fault_text, call_text, blank, output_of, output_bytes}
use Rattle.strip.specs.Printed.{Records, call, end, followed_by, followed, records_from, records_of, printed_open, printed_opening, printed_from, printed}
use Rattle.strip.specs.Run.{begun, with_limits, with_watch, with_desk, ended, printing, silent, opened, performed, faulted, taken, met, stepped, printed_by}
use Rattle.strip.specs.Demands.{PrintsWhole}
use Rattle.strip.proofs.records.GatherLaws.{Gathers, gathers_none, gathers_more, gathers_opening}
use Rattle.strip.proofs.running.RunLaws.{call_open, call_shut, end_open, end_shut, opened_is}
use Rattle.strip.proofs.records.Forward.{Forward, forward, IsCall, Meets, again}
use Rattle.strip.proofs.running.StepsLeft.{steps_left, some_left, step_falls, over_after}

-- ---- what steps print
output_bytes_lem : (t : List ℕ) → output_bytes (output_of t) ≡ t
unfolding output_bytes output_of
output_bytes_lem t = take-append_seam t (drop (length t) blank)

-- what a step prints, and those after it
abbrev Printing : ℕ → List ℕ → Step → List ℕ → Type 0
Printing n s step t = output_bytes step.output ++ printed_by n s step.run ≡ t

printing_then : (n : ℕ) (s text rest : List ℕ) (r : Run) → printed_by n s r ≡ rest → Printing n s (printing text r) (text ++ rest)
printing_then n s text rest r e = ap₂ (λ (x y : List ℕ). x ++ y) (output_bytes_lem text) e

pub printed_over : (n : ℕ) (s : List ℕ) (r : Run) → r.over ≡ true → printed_by n s r ≡ []
unfolding printed_by
printed_over zero s r e = refl
printed_over (suc n) s r e = ap (λ b. cond b [] (output_bytes (stepped s r).output ++ printed_by n s (stepped s r).run)) e

printed_more : (n : ℕ) (s t : List ℕ) (r : Run) → r.over ≡ false → Printing n s (stepped s r) t → printed_by (suc n) s r ≡ t
unfolding printed_by
printed_more n s t r e p = ap (λ b. cond b [] (output_bytes (stepped s r).output ++ printed_by n s (stepped s r).run)) e ∙ p

-- a step that is another one
the_same : (n : ℕ) (s t : List ℕ) (x y : Step) → x ≡ y → (steps_left s y.run ≤ n → Printing n s y t) → steps_left s x.run ≤ n → Printing n s x t
the_same n s t x y e f = subst (λ (z : Step). steps_left s z.run ≤ n → Printing n s z t) (sym e) f

-- a step of a run before any call, or after one
stepped_at : (s : List ℕ) (r : Run) (b : Bool) → r.called ≡ b → stepped s r ≡ met (record_at s r.at b) r
unfolding stepped
stepped_at s r b e = ap (λ (c : Bool). met (record_at s r.at c) r) e

-- ---- on the open desk
-- a run on the open desk, with so many steps and records left, prints what its desk does for the records from its offset on
abbrev Opens : ℕ → ℕ → List ℕ → Type 0
Opens m n s = (r : Run) → r.called ≡ true → r.over ≡ false → length s - r.at < m → steps_left s r ≤ n
    → printed_by n s r ≡ printed_open r.desk (records_from m s r.at true)

module _ (m n : ℕ) (s : List ℕ) (on : Opens m n s) (r : Run) (called : r.called ≡ true) (over : r.over ≡ false) (few : length s - r.at < suc m) where
  open_call : (c : Call) (next : ℕ) → (r.at < next) × (next ≤ length s) → steps_left s (performed c next r).run ≤ n
      → Printing n s (performed c next r) (printed_open r.desk (call c (records_from m s next true)))
  unfolding printed_open performed with_desk
  open_call c next (l, h) left =
      let a = answer c r.desk in
      let after = with_desk a.desk r.over next r in
      printing_then n s (call_text (call_kind c) a.code a.sent) _ after (on after refl over (omega (arith, l, h, few)) left)

  open_end : steps_left s (silent (ended r)).run ≤ n → Printing n s (silent (ended r)) []
  unfolding silent ended
  open_end left = printing_then n s [] [] (ended r) (printed_over n s (ended r) refl)

  abbrev open_rest : ℕ → Bool → Records
  open_rest k after = records_from m s k after

  open_taken : (found : Record) (next : ℕ) → (r.at < next) × (next ≤ length s) → steps_left s (taken found next r).run ≤ n
      → Printing n s (taken found next r) (printed_open r.desk (followed_by found next true open_rest))
  unfolding printed_open silent with_limits with_watch
  open_taken (Record.Limits d u) next (l, h) left = printing_then n s [] _ (with_limits d u next r) (on (with_limits d u next r) called over (omega (arith, l, h, few)) left)
  open_taken (Record.Watch w) next (l, h) left = printing_then n s [] _ (with_watch w next r) (on (with_watch w next r) called over (omega (arith, l, h, few)) left)
  open_taken (Record.Call c) next lh left = the_same n s _ _ _ (call_open r c next called) (open_call c next lh) left

  open_met : (found : Found) → FoundBy (Forward s r.at) found → steps_left s (met found r).run ≤ n → Printing n s (met found r) (printed_open r.desk (followed found true open_rest))
  unfolding printed_open faulted ended
  open_met (Ok (Some d)) f left = open_taken d.found d.offset f left
  open_met (Ok None) f left = the_same n s _ _ _ (end_open r called) open_end left
  open_met (Err at) f left = printing_then n s (fault_text at) [] (ended r) (printed_over n s (ended r) refl) ∙ append-nil (fault_text at)

  open_step : steps_left s (stepped s r).run ≤ n → Printing n s (stepped s r) (printed_open r.desk (records_from (suc m) s r.at true))
  unfolding records_from
  open_step left = the_same n s _ _ _ (stepped_at s r true called) (open_met (record_at s r.at true) (forward s r.at true)) left

open_prints : (m n : ℕ) (s : List ℕ) → Opens m n s
open_prints zero n s r called over few left = absurd (not-suc-le-zero few)
open_prints (suc m) zero s r called over few left = absurd (some_left s r over left)
open_prints (suc m) (suc n) s r called over few left =
    printed_more n s _ r over (open_step m n s (open_prints m n s) r called over few (omega (arith, step_falls s r over, left)))

-- ---- before the desk is open
abbrev Reads : ℕ → ℕ → List ℕ → Type 0
Reads m n s = (r : Run) (ws : List Watch) → r.called ≡ false → r.over ≡ false → Gathers r.gathered ws → length s - r.at < m → steps_left s r ≤ n
    → printed_by n s r ≡ printed_from r.down r.up ws (records_from m s r.at false)

-- an opening, and what follows unless it is a refusal
abbrev after_opening : Run → Opening → Run
after_opening r o = with_desk o.desk (not (eqb o.code 0)) r.at r

opening_follows : (m n : ℕ) (s : List ℕ) (r : Run) (o : Opening) → length s - r.at < suc m → steps_left s (after_opening r o) ≤ n
    → printed_by n s (after_opening r o) ≡ cond (eqb o.code 0) (printed_open o.desk (records_from (suc m) s r.at true)) []
unfolding with_desk
opening_follows m n s r o few left = by_test (eqb o.code 0) refl
  where
    answered : Bool → List ℕ
    answered b = cond b (printed_open o.desk (records_from (suc m) s r.at true)) []

    by_test : (t : Bool) → eqb o.code 0 ≡ t → printed_by n s (after_opening r o) ≡ answered (eqb o.code 0)
    by_test true e = open_prints (suc m) n s (after_opening r o) refl (ap not e) few left ∙ sym (ap answered e)
    by_test false e = printed_over n s (after_opening r o) (ap not e) ∙ sym (ap answered e)

opened_prints : (m n : ℕ) (s : List ℕ) (r : Run) (ws : List Watch) (rs : Records) → length s - r.at < suc m → Gathers r.gathered ws
    → records_from (suc m) s r.at true ≡ rs → steps_left s (opened r).run ≤ n → Printing n s (opened r) (printed_opening r.down r.up ws rs)
unfolding printed_opening
opened_prints m n s r ws rs few g same left =
    let o = opening (length ws) ws r.down r.up in
    let step : opened r ≡ printing (open_text o.code) (after_opening r o) = sym (opened_is r o (sym (gathers_opening r.gathered ws r.down r.up g))) in
    the_same n s _ _ _ step
    (λ l. printing_then n s (open_text o.code) _ (after_opening r o)
    (opening_follows m n s r o few l ∙ ap (λ (x : Records). cond (eqb o.code 0) (printed_open o.desk x) []) same)) left

module _ (m n : ℕ) (s : List ℕ) (on : Reads m n s) (r : Run) (ws : List Watch) (called : r.called ≡ false) (over : r.over ≡ false) (g : Gathers r.gathered ws) (few : length s - r.at < suc m) where
  abbrev rest : ℕ → Bool → Records
  rest k after = records_from m s k after

  read_taken : (found : Record) (next : ℕ) → (r.at < next) × (next ≤ length s) → (IsCall found → records_from (suc m) s r.at true ≡ followed_by found next true rest)
      → steps_left s (taken found next r).run ≤ n → Printing n s (taken found next r) (printed_from r.down r.up ws (followed_by found next false rest))
  unfolding printed_from silent with_limits with_watch
  read_taken (Record.Limits d u) next (l, h) again left = printing_then n s [] _ (with_limits d u next r) (on (with_limits d u next r) ws called over g (omega (arith, l, h, few)) left)
  read_taken (Record.Watch w) next (l, h) again left =
      printing_then n s [] _ (with_watch w next r) (on (with_watch w next r) (ws ++ (w ∷ [])) called over (gathers_more r.gathered ws w g) (omega (arith, l, h, few)) left)
  read_taken (Record.Call c) next lh again left = the_same n s _ _ _ (call_shut r c next called) (opened_prints m n s r ws (call c (rest next true)) few g (again tt)) left

  read_met : (found : Found) → FoundBy (Forward s r.at) found → (Meets found → records_from (suc m) s r.at true ≡ followed found true rest)
      → steps_left s (met found r).run ≤ n → Printing n s (met found r) (printed_from r.down r.up ws (followed found false rest))
  unfolding printed_from faulted ended
  read_met (Ok (Some d)) f again left = read_taken d.found d.offset f again left
  read_met (Ok None) f again left = the_same n s _ _ _ (end_shut r called) (opened_prints m n s r ws end few g (again tt)) left
  read_met (Err at) f again left = printing_then n s (fault_text at) [] (ended r) (printed_over n s (ended r) refl) ∙ append-nil (fault_text at)

  met_again : Meets (record_at s r.at false) → records_from (suc m) s r.at true ≡ followed (record_at s r.at false) true rest
  unfolding records_from
  met_again k = ap (λ (found : Found). followed found true rest) (again s r.at k)

  read_step : steps_left s (stepped s r).run ≤ n → Printing n s (stepped s r) (printed_from r.down r.up ws (records_from (suc m) s r.at false))
  unfolding records_from
  read_step left = the_same n s _ _ _ (stepped_at s r false called) (read_met (record_at s r.at false) (forward s r.at false) met_again) left

read_prints : (m n : ℕ) (s : List ℕ) → Reads m n s
read_prints zero n s r ws called over g few left = absurd (not-suc-le-zero few)
read_prints (suc m) zero s r ws called over g few left = absurd (some_left s r over left)
read_prints (suc m) (suc n) s r ws called over g few left =
    printed_more n s _ r over (read_step m n s (read_prints m n s) r ws called over g few (omega (arith, step_falls s r over, left)))

-- ---- from the beginning
pub prints_whole : PrintsWhole
unfolding printed records_of begun
prints_whole s =
    let left : steps_left s begun ≤ length s + 2 = omega arith in
    (over_after (length s + 2) s begun left, read_prints (suc (length s)) (length s + 2) s begun [] refl refl gathers_none (omega arith) left)
