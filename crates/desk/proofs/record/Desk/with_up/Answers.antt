-- `desk::record::Desk::with_up` meets its contract.
-- Assumes nothing.
use Rattle.std.proofs.Common.{rules}
use mir.Syntax.{w32}
use mir.Val.{SFits}
use mir.ValLaws.{to_z-of_z}
use Rattle.desk.specs.Record.{with_up}
use Rattle.desk.proofs.record.Desk.with_up.Goals as goal

pub returns : goal.returns
unfolding with_up
returns c =
    let down : SFits w32 c.args.self.down = search rules in
    rw (to_z-of_z w32 c.args.up c.ranges.up, to_z-of_z w32 c.args.self.down down)
