-- `ipc::lengths::string_length` meets its contract.
-- Assumes nothing.
use mathlib.Core.Path.{◌∙◌}
use Rattle.ipc.proofs.writing.LengthLaws.{string_cut}
use Rattle.ipc.proofs.lengths.string_length.Goals as goal

pub returns : goal.returns
returns c = c.cut.ensures ∙ string_cut c.args.s.now c.cut-n.result c.string_head.result c.string_head.ensures.0 c.cut-n.ensures
