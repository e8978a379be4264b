-- `bencode::marks::is_marked` meets its contract.
-- Assumes nothing.
use mathlib.Core.Path.{refl}
use Rattle.bencode.specs.Marks.{is_marked}
use Rattle.bencode.proofs.marks.is_marked.Goals as goal

pub returns : goal.returns
unfolding is_marked
returns c = refl
