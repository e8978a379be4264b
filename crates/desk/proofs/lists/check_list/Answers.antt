-- `desk::lists::check_list` meets its contract. The invariant: what the records from i on say, after those before, is what all
-- say.
-- Assumes nothing.
use mathlib.Core.Path.{sym, ◌∙◌}
use Rattle.desk.proofs.watching.Scans.{fault_range, fault_again, fault_past, fault_none}
use Rattle.desk.proofs.lists.check_list.Goals as goal

pub returns-then-not-is_id : goal.returns-then-not-is_id
returns-then-not-is_id c = sym (c.loop-i.invariant ∙ fault_range c.args.list.now c.loop-i.i c.loop-i-test.true (sym c.if-not-is_id.ensures))

pub returns-then-has_id : goal.returns-then-has_id
returns-then-has_id c = sym (c.loop-i.invariant ∙ fault_again c.args.list.now c.loop-i.i c.loop-i-test.true (sym c.if-not-is_id.ensures) (sym c.if-has_id.ensures))

pub loop-i-preserved : goal.loop-i-preserved
loop-i-preserved c = c.loop-i.invariant ∙ fault_past c.args.list.now c.loop-i.i c.loop-i-test.true (sym c.if-not-is_id.ensures) (sym c.if-has_id.ensures)

pub returns : goal.returns
returns c = sym (c.loop-i.invariant ∙ fault_none c.args.list.now c.loop-i.i c.loop-i-test.false)
