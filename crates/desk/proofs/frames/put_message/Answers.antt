-- `desk::frames::put_message` meets its contract.
-- Assumes nothing.
use native.Mathlib.Omega.{arith}
use Rattle.desk.specs.Command.{no_tag}
use Rattle.desk.proofs.writing.PutFrames.{part_counted, part_put, part_kept, put_past}
use Rattle.desk.proofs.frames.put_message.Goals as goal

pub returns-then-out-at : goal.returns-then-out-at
returns-then-out-at c = put_past c.args.out.now c.args.at _ c.if-out-at.true

pub overflow_add-result : goal.overflow_add-result
overflow_add-result c = omega (arith, part_counted c.args.out.now c.args.at c.if-out-at.false no_tag c.args.key c.args.given c.args.s.now c.requires c.write.ensures c.in-Ok.n c.in-Ok.is)

pub returns-in-Ok : goal.returns-in-Ok
returns-in-Ok c = part_put c.args.out.now c.args.at c.if-out-at.false no_tag c.args.key c.args.given c.args.s.now c.requires c.write.ensures c.in-Ok.n c.in-Ok.is

pub returns-in-Err : goal.returns-in-Err
returns-in-Err c = part_kept c.args.out.now c.args.at c.if-out-at.false no_tag c.args.key c.args.given c.args.s.now c.requires c.write.ensures c.in-Err.field-0 c.in-Err.is
