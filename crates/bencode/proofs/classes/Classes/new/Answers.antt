-- `bencode::classes::Classes::new`: the table passes its test.
-- Assumes nothing.
use mathlib.Core.Path.{refl}
use Rattle.bencode.specs.Classes.{are_classes_from, is_table}
use Rattle.bencode.proofs.classes.Classes.new.Goals as goal

pub invariant_of-result : goal.invariant_of-result
unfolding is_table are_classes_from
invariant_of-result c = record { right = refl }
