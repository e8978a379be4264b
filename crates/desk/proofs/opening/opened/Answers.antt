-- `desk::opening::opened` meets its contract.
-- Assumes nothing.
use Rattle.desk.specs.Opening.{refused_opening, opening_of}
use Rattle.desk.proofs.opening.opened.Goals as goal

pub returns-in-Ok : goal.returns-in-Ok
unfolding opening_of
returns-in-Ok c = rw c.in-Ok.is

pub returns-in-Err : goal.returns-in-Err
unfolding opening_of refused_opening
returns-in-Err c = rw (c.in-Err.is, c.closed_desk.ensures)
