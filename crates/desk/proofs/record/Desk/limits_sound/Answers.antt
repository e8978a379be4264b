-- `desk::record::Desk::limits_sound` meets its contract.
-- Assumes nothing.
use Rattle.std.proofs.Common.{rules}
use Rattle.std.proofs.lemmas.Grind.{common_steps}
use native.Mathlib.Omega.{arith}
use mir.Syntax.{w32}
use mir.Val.{SFits}
use mir.ValLaws.{to_z-of_z}
use Rattle.desk.specs.Record.{limits_sound}
use Rattle.desk.proofs.record.Desk.limits_sound.Goals as goal

pub returns-then-is_limit : goal.returns-then-is_limit
unfolding limits_sound
returns-then-is_limit c =
    let down : SFits w32 c.args.self.now.down = search rules in
    let up : SFits w32 c.args.self.now.up = search rules in
    grind (arith, common_steps, to_z-of_z)

pub returns-else-is_limit : goal.returns-else-is_limit
unfolding limits_sound
returns-else-is_limit c =
    let down : SFits w32 c.args.self.now.down = search rules in
    grind (arith, common_steps, to_z-of_z)
