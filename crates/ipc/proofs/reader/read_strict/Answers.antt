-- `ipc::reader::read_strict` meets its contract.
-- Assumes nothing.
use mathlib.Core.Path.{ap}
use Rattle.ipc.specs.Answer.{answer_of}
use Rattle.ipc.proofs.reader.read_strict.Goals as goal

pub returns : goal.returns
returns c = record { answer = c.read_by.ensures; numbers = ap answer_of c.read_by.ensures }
