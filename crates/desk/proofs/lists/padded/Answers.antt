-- `desk::lists::padded` meets its contract.
-- Assumes nothing.
use Rattle.desk.proofs.watching.Places.{places_cut}
use Rattle.desk.proofs.lists.padded.Goals as goal

pub returns : goal.returns
returns c = rw c.copy_from_slice.ensures.after (places_cut 32 c.min-n.result c.args.list.now c.min-n.ensures)
