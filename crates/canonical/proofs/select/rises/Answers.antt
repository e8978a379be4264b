-- `canonical::select::rises` meets its contract.
-- Assumes nothing.
use mathlib.Core.Path.{sym, ◌∙◌}
use Rattle.std.specs.Prelude.{None, Some}
use Rattle.canonical.specs.SortWalk.{bound_of, entry_from}
use Rattle.canonical.proofs.walks.Steps.{step_at, rise_end, rise_falls, rise_more}
use Rattle.canonical.proofs.select.rises.Goals as goal

pub returns-then-not-is_past : goal.returns-then-not-is_past
returns-then-not-is_past c =
    let s = c.args.s.now in
    let l = c.loop-entry in
    let i = l.entry-iterator in
    let j = c.next.new.self in
    let step = step_at i.place j.place (Some c.in-Some.entry) l.invariant.walks c.in-Some.ensures.steps.1 in
    rise_falls s (entry_from s i.place) (bound_of s l.last) (entry_from s j.place) c.in-Some.entry step (sym c.if-not-is_past.ensures) ∙ l.invariant.decides

pub loop-entry-preserved : goal.loop-entry-preserved
loop-entry-preserved c =
    let s = c.args.s.now in
    let l = c.loop-entry in
    let i = l.entry-iterator in
    let j = c.next.new.self in
    let step = step_at i.place j.place (Some c.in-Some.entry) l.invariant.walks c.in-Some.ensures.steps.1 in
    record {
      decides = rise_more s (entry_from s i.place) (bound_of s l.last) (entry_from s j.place) c.in-Some.entry step (sym c.if-not-is_past.ensures) ∙ l.invariant.decides;
      stands = step.4;
      walks = c.in-Some.ensures.steps.0 ∙ l.invariant.walks;
    }

pub returns : goal.returns
returns c =
    let s = c.args.s.now in
    let l = c.loop-entry in
    let i = l.entry-iterator in
    let j = c.next.new.self in
    let step = step_at i.place j.place None l.invariant.walks c.in-None.ensures.steps.1 in
    rise_end s (entry_from s i.place) (bound_of s l.last) (entry_from s j.place) step ∙ l.invariant.decides
