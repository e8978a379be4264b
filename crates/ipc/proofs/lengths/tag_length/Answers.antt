-- `ipc::lengths::tag_length` meets its contract.
-- Assumes nothing.
use mathlib.Core.Path.{◌∙◌}
use native.Mathlib.Omega.{arith}
use Rattle.ipc.proofs.writing.LengthLaws.{no_tag_length, tag_length_lem}
use Rattle.ipc.proofs.lengths.tag_length.Goals as goal

pub returns-then-tag-eq0 : goal.returns-then-tag-eq0
returns-then-tag-eq0 c = (no_tag_length c.args.tag c.if-tag-eq0.true, omega arith)

pub returns : goal.returns
returns c = (c.integer_length.ensures.0 ∙ tag_length_lem c.args.tag c.from.result c.if-tag-eq0.false (omega arith) c.from.ensures, c.integer_length.ensures.1)
