-- `desk::record::Desk::list_sound` meets its contract.
-- Assumes nothing.
use Rattle.std.proofs.lemmas.Grind.{common_steps}
use native.Mathlib.Omega.{arith}
use Rattle.desk.specs.Record.{list_sound}
use Rattle.desk.proofs.openings.OpeningLaws.{passed_is}
use Rattle.desk.proofs.record.Desk.list_sound.Goals as goal

pub returns-then-self-eq0 : goal.returns-then-self-eq0
unfolding list_sound
returns-then-self-eq0 c = grind (arith, common_steps, passed_is)

pub returns-else-self-eq0 : goal.returns-else-self-eq0
unfolding list_sound
returns-else-self-eq0 c = grind (arith, common_steps, passed_is)

pub returns-else-are_unused : goal.returns-else-are_unused
unfolding list_sound
returns-else-are_unused c = grind (arith, common_steps, passed_is)
