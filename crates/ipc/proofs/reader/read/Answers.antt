-- `ipc::reader::read` meets its contract.
-- Assumes nothing.
use mathlib.Core.Path.{ap}
use Rattle.ipc.specs.Answer.{answer_of}
use Rattle.ipc.specs.Reader.{frame_reading, read_frame}
use Rattle.ipc.proofs.reader.read.Goals as goal

pub returns : goal.returns
unfolding frame_reading read_frame
returns c = record { answer = c.read_by.ensures; numbers = ap answer_of c.read_by.ensures }
