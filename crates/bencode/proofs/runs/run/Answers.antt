-- `bencode::runs::run` meets its contract: what `after` answers is an item more.
-- Assumes nothing.
use Rattle.bencode.specs.Runs.{none, more}
use Rattle.bencode.proofs.runs.run.Goals as goal

pub loop-end-init : goal.loop-end-init
loop-end-init g c = (c.requires.can, none)

pub loop-end-preserved : goal.loop-end-preserved
loop-end-preserved g c = (c.loop-end.invariant.0, more c.loop-end.at c.in-Some.end c.loop-end.invariant.1 c.in-Some.ensures)
