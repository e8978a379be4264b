-- `desk::record::closed_desk` meets its contract.
-- Assumes nothing.
use Rattle.desk.specs.Record.{closed}
use Rattle.desk.proofs.record.closed_desk.Goals as goal

pub returns : goal.returns
unfolding closed
returns c = rw c.padded.ensures
