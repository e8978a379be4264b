-- `ipc::lengths::key_length` meets its contract.
-- Assumes nothing.
use native.Mathlib.Omega.{arith}
use Rattle.ipc.specs.Keys.{key_text}
use Rattle.ipc.proofs.writing.LengthLaws.{string_sum}
use Rattle.ipc.proofs.lengths.key_length.Goals as goal

pub returns : goal.returns
returns c = (string_sum (key_text c.args.key) c.text_length-n.result c.string_head.result c.string_head.ensures.0 c.text_length-n.ensures.0, omega (arith, c.text_length-n.ensures.1, c.string_head.ensures.1))
