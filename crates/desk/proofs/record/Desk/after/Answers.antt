-- `desk::record::Desk::after` meets its contract.
-- Assumes nothing.
use Rattle.std.proofs.Common.{rules}
use mir.Syntax.{w32}
use mir.Val.{SFits}
use mir.ValLaws.{to_z-of_z}
use Rattle.desk.specs.Plan.{desk_after}
use Rattle.desk.proofs.record.Desk.after.Goals as goal

pub returns-in-Down : goal.returns-in-Down
unfolding desk_after
returns-in-Down c =
    let fits : SFits w32 c.in-Down.limit = search rules in
    rw c.in-Down.is (rw (to_z-of_z w32 c.in-Down.limit fits) at c.with_down.ensures)

pub returns-in-Up : goal.returns-in-Up
unfolding desk_after
returns-in-Up c =
    let fits : SFits w32 c.in-Up.limit = search rules in
    rw c.in-Up.is (rw (to_z-of_z w32 c.in-Up.limit fits) at c.with_up.ensures)

pub returns-in-Start : goal.returns-in-Start
unfolding desk_after
returns-in-Start c = rw c.in-Start.is c.with_running.ensures

pub returns-in-Stop : goal.returns-in-Stop
unfolding desk_after
returns-in-Stop c = rw c.in-Stop.is c.with_running-in-Stop.ensures

pub returns-in-Raise : goal.returns-in-Raise
unfolding desk_after
returns-in-Raise c = rw c.in-Raise.is c.with_override.ensures

pub returns-in-Clear : goal.returns-in-Clear
unfolding desk_after
returns-in-Clear c = rw c.in-Clear.is c.with_override-in-Clear.ensures
