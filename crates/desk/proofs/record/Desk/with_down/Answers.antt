-- `desk::record::Desk::with_down` meets its contract.
-- Assumes nothing.
use Rattle.std.proofs.Common.{rules}
use mir.Syntax.{w32}
use mir.Val.{SFits}
use mir.ValLaws.{to_z-of_z}
use Rattle.desk.specs.Record.{with_down}
use Rattle.desk.proofs.record.Desk.with_down.Goals as goal

pub returns : goal.returns
unfolding with_down
returns c =
    let up : SFits w32 c.args.self.up = search rules in
    rw (to_z-of_z w32 c.args.down c.ranges.down, to_z-of_z w32 c.args.self.up up)
