-- `desk::record::Desk::is_sound` meets its contract.
-- Assumes nothing.
use Rattle.std.proofs.lemmas.Grind.{common_steps}
use native.Mathlib.Omega.{arith}
use Rattle.desk.specs.Record.{sound}
use Rattle.desk.proofs.record.Desk.is_sound.Goals as goal

pub returns-then-limits_sound : goal.returns-then-limits_sound
unfolding sound
returns-then-limits_sound c = grind (arith, common_steps)

pub returns-else-limits_sound : goal.returns-else-limits_sound
unfolding sound
returns-else-limits_sound c = grind (arith, common_steps)
