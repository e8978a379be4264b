-- `desk::record::Desk::with_override` meets its contract.
-- Assumes nothing.
use Rattle.std.proofs.Common.{rules}
use mir.Syntax.{w32}
use mir.Val.{SFits}
use mir.ValLaws.{to_z-of_z}
use Rattle.desk.specs.Record.{with_override}
use Rattle.desk.proofs.record.Desk.with_override.Goals as goal

pub returns : goal.returns
unfolding with_override
returns c =
    let down : SFits w32 c.args.self.down = search rules in
    let up : SFits w32 c.args.self.up = search rules in
    rw (to_z-of_z w32 c.args.self.down down, to_z-of_z w32 c.args.self.up up)
