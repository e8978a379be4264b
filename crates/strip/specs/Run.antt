-- Pinned by `PrintsWhole`. A run by steps.
-- Assumes nothing.
use Rattle.std.specs.Prelude.{ℕ, zero, suc, Bool, true, false, cond, not, List, [], ◌++◌, eqb, ℤ, pos, take}
use Rattle.std.specs.declared.option.Option.TheVariants.{None, Some}
use Rattle.std.specs.declared.result.Result.TheVariants.{Ok, Err}
use Rattle.desk.specs.declared.watch.Watch.{Watch}
use Rattle.desk.specs.declared.call.Call.{Call}
use Rattle.desk.specs.declared.record.Desk.{Desk}
use Rattle.desk.specs.Record.{closed}
use Rattle.desk.specs.Opening.{opening}
use Rattle.strip.specs.declared.record.Record.{Record}
use Rattle.strip.specs.declared.run.Run.{Run}
use Rattle.strip.specs.declared.run.Step.{Step}
use Rattle.strip.specs.Record.{Found, call_kind, record_at}
use Rattle.strip.specs.Gather.{nothing_gathered, gathered}
use Rattle.strip.specs.Answer.{answer}
use Rattle.strip.specs.Line.{open_text, fault_text, call_text, output_of, output_bytes}

-- ---- the run
unfoldable pub begun : Run
begun = record { at = 0; called = false; over = false; down = pos 0; up = pos 0; gathered = nothing_gathered; desk = closed }

unfoldable pub with_limits : ℤ → ℤ → ℕ → Run → Run
with_limits down up next r =
    record { at = next; called = r.called; over = r.over; down = down; up = up; gathered = r.gathered; desk = r.desk }

unfoldable pub with_watch : Watch → ℕ → Run → Run
with_watch w next r =
    record {
      at = next;
      called = r.called;
      over = r.over;
      down = r.down;
      up = r.up;
      gathered = gathered r.gathered w;
      desk = r.desk;
    }

unfoldable pub with_desk : Desk → Bool → ℕ → Run → Run
with_desk d over next r =
    record { at = next; called = true; over = over; down = r.down; up = r.up; gathered = r.gathered; desk = d }

unfoldable pub ended : Run → Run
ended r = record { at = r.at; called = r.called; over = true; down = r.down; up = r.up; gathered = r.gathered; desk = r.desk }

-- ---- a step: the run after it, and what it prints
abbrev pub printing : List ℕ → Run → Step
printing text r = record { run = r; output = output_of text }

unfoldable pub silent : Run → Step
silent r = printing [] r

-- an opening; a refusal ends the run
unfoldable pub opened : Run → Step
opened r =
    let g = r.gathered in
    let o = opening g.count (take g.count g.watch) r.down r.up in
    printing (open_text o.code) (with_desk o.desk (not (eqb o.code 0)) r.at r)

-- a call on the desk's record
unfoldable pub performed : Call → ℕ → Run → Step
performed c next r =
    let a = answer c r.desk in
    printing (call_text (call_kind c) a.code a.sent) (with_desk a.desk r.over next r)

-- the first call opens the desk, and so does the end if no call came; each is then met again
unfoldable pub call_taken : Call → ℕ → Run → Step
call_taken c next r = cond r.called (performed c next r) (opened r)

unfoldable pub end_taken : Run → Step
end_taken r = cond r.called (silent (ended r)) (opened r)

unfoldable pub faulted : ℕ → Run → Step
faulted at r = printing (fault_text at) (ended r)

abbrev pub taken : Record → ℕ → Run → Step
taken (Record.Limits down up) next r = silent (with_limits down up next r)
taken (Record.Watch w) next r = silent (with_watch w next r)
taken (Record.Call c) next r = call_taken c next r

-- what stands at an offset
abbrev pub met : Found → Run → Step
met (Ok (Some d)) r = taken d.found d.offset r
met (Ok None) r = end_taken r
met (Err at) r = faulted at r

unfoldable pub stepped : List ℕ → Run → Step
stepped s r = met (record_at s r.at r.called) r

-- ---- steps, until the run is over: what they print, and the run after them
unfoldable pub printed_by : ℕ → List ℕ → Run → List ℕ
printed_by zero s r = []
printed_by (suc n) s r = let next = stepped s r in cond r.over [] (output_bytes next.output ++ printed_by n s next.run)

unfoldable pub run_after : ℕ → List ℕ → Run → Run
run_after zero s r = r
run_after (suc n) s r = cond r.over r (run_after n s (stepped s r).run)
