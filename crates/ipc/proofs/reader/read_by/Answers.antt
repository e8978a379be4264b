-- `ipc::reader::read_by` meets its contract.
-- Assumes nothing.
use mathlib.Core.Path.{sym, ◌∙◌}
use Rattle.ipc.proofs.frames.ReaderLaws.{sized_small}
use Rattle.ipc.proofs.reader.read_by.Goals as goal

pub read_length-requires : goal.read_length-requires
read_length-requires c = sized_small c.in_ok-n.n c.in_ok-length.length (sym c.new.ensures.answer ∙ c.in_ok-length.was)
