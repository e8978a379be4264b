-- `ipc::format::items_end` meets its contract.
-- Assumes nothing.
use mathlib.Core.Path.{sym, ◌∙◌}
use native.Mathlib.Omega.{arith}
use Rattle.ipc.proofs.formats.FormatLaws.{item_ends, items_last, items_off, items_more}
use Rattle.ipc.proofs.format.items_end.Goals as goal

pub returns-in_err-at : goal.returns-in_err-at
returns-in_err-at c =
    c.from_residual.ensures
    ∙ items_off c.args.items c.args.p.now c.loop-items.at (λ e. c.loop-items-test.true (c.byte_at.ensures ∙ e)) (sym c.item_end.ensures ∙ c.in_err-at.was)
    ∙ c.loop-items.invariant

pub loop-items-smaller : goal.loop-items-smaller
loop-items-smaller c = omega (arith, item_ends c.args.items c.args.p.now c.loop-items.at c.in_ok-at.at (sym c.item_end.ensures ∙ c.in_ok-at.was))

pub loop-items-preserved : goal.loop-items-preserved
loop-items-preserved c = items_more c.args.items c.args.p.now c.loop-items.at (λ e. c.loop-items-test.true (c.byte_at.ensures ∙ e)) c.in_ok-at.at (sym c.item_end.ensures ∙ c.in_ok-at.was) ∙ c.loop-items.invariant

pub returns : goal.returns
returns c = items_last c.args.items c.args.p.now c.loop-items.at (sym c.byte_at.ensures ∙ c.loop-items-test.false) ∙ c.loop-items.invariant
