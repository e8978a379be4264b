-- `canonical::select::least` meets its contract.
-- Assumes nothing.
use mathlib.Core.Path.{◌≡◌, sym, ap, ◌∙◌}
use Rattle.std.proofs.Common.{rules}
use Rattle.std.specs.Prelude.{Option, None, Some}
use Rattle.canonical.specs.declared.select.Pick.{Pick}
use Rattle.canonical.specs.SortWalk.{bound_of, entry_from, preferred_at, least_at}
use Rattle.canonical.proofs.walks.PickLaws.{each_option, below_told, preferred_new, preferred_old, preferred_written}
use Rattle.canonical.proofs.walks.Steps.{step_at, least_end, least_more}
use Rattle.canonical.proofs.select.least.Goals as goal
use Rattle.canonical.proofs.select.least.Goals.{else-is_past-via-then-is_past+else-is_none_or, else-is_past-via-else-is_past}

pub loop-entry-preserved-then-is_none_or : goal.loop-entry-preserved-then-is_none_or
loop-entry-preserved-then-is_none_or c =
    let s = c.args.s.now in
    let l = c.loop-entry in
    let i = l.entry-iterator in
    let j = c.next.new.self in
    let e = c.in-Some.entry in
    let b = bound_of s c.args.last in
    let step = step_at i.place j.place (Some e) l.invariant.walks c.in-Some.ensures.steps.1 in
    let below = below_told s l.best e c.is_none_or.result (each_option l.best c.is_none_or.ensures (λ q. q) (λ o q. search rules)) in
    let new = preferred_new s b l.best e (sym c.if-is_past.ensures) (sym below ∙ c.if-is_none_or.true) in
    record {
      decides = ap (λ (o : Option Pick). least_at s b (entry_from s j.place) o) new ∙ least_more s (entry_from s i.place) b (entry_from s j.place) l.best e step ∙ l.invariant.decides;
      stands = step.4;
      walks = c.in-Some.ensures.steps.0 ∙ l.invariant.walks;
    }

pub loop-entry-preserved : goal.loop-entry-preserved
loop-entry-preserved c =
    let s = c.args.s.now in
    let l = c.loop-entry in
    let i = l.entry-iterator in
    let j = c.next.new.self in
    let e = c.in-Some.entry in
    let b = bound_of s c.args.last in
    let step = step_at i.place j.place (Some e) l.invariant.walks c.in-Some.ensures.steps.1 in
    let old : l.best ≡ preferred_at s b l.best e =
    elim c.else-is_past.branch [
      | else-is_past-via-then-is_past+else-is_none_or w ↦
          let below = below_told s l.best e w.is_none_or.result (each_option l.best w.is_none_or.ensures (λ q. q) (λ o q. search rules)) in
          preferred_old s b l.best e (sym w.if-is_past.ensures) (sym below ∙ w.if-is_none_or.false)
      | else-is_past-via-else-is_past w ↦ preferred_written s b l.best e (sym w.if-is_past.ensures)
    ] in
    record {
      decides = ap (λ (o : Option Pick). least_at s b (entry_from s j.place) o) old ∙ least_more s (entry_from s i.place) b (entry_from s j.place) l.best e step ∙ l.invariant.decides;
      stands = l.invariant.stands;
      walks = c.in-Some.ensures.steps.0 ∙ l.invariant.walks;
    }

pub returns : goal.returns
returns c =
    let s = c.args.s.now in
    let l = c.loop-entry in
    let i = l.entry-iterator in
    let j = c.next.new.self in
    let step = step_at i.place j.place None l.invariant.walks c.in-None.ensures.steps.1 in
    (least_end s (entry_from s i.place) (bound_of s c.args.last) (entry_from s j.place) l.best step ∙ l.invariant.decides, l.invariant.stands)
