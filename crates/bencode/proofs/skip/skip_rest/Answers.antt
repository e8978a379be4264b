-- `bencode::skip::skip_rest` meets its contract.
-- Assumes nothing.
use Rattle.bencode.proofs.skip.skip_rest.Goals as goal

pub returns : goal.returns
returns c = c.skip_from.ensures
