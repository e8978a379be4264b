-- `desk::frames::put_limit` meets its contract.
-- Assumes nothing.
use native.Mathlib.Omega.{arith}
use Rattle.desk.specs.Command.{no_tag}
use Rattle.desk.proofs.numbers.LimitLaws.{wide}
use Rattle.desk.proofs.writing.Writes.{limit_writable}
use Rattle.desk.proofs.frames.put_limit.Goals as goal

pub put_message-requires : goal.put_message-requires
put_message-requires c = rw (c.from.ensures, wide c.args.limit c.ranges.limit) (limit_writable no_tag (omega arith) c.args.key c.args.limit c.requires.0 c.requires.1)
