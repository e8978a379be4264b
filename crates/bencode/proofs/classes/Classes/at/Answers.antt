-- `bencode::classes::Classes::at` meets its contract.
-- Assumes nothing.
use mathlib.Core.Path.{ap, ◌∙◌}
use Rattle.bencode.specs.Classes.{class_of}
use Rattle.bencode.proofs.classes.Classes.at.Goals as goal

pub returns : goal.returns
returns c = c.of.ensures ∙ ap class_of c.byte_at.ensures
