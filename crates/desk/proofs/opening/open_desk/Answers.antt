-- `desk::opening::open_desk` meets its contract: each return is a row of the opening's table.
-- Assumes nothing.
use Rattle.std.proofs.lemmas.Grind.{common_steps}
use Rattle.std.proofs.lemmas.Result.{err_from_is_err_and}
use native.Mathlib.Omega.{arith}
use mir.ValLaws.{to_z-of_z}
use Rattle.desk.specs.Record.{opened_with}
use Rattle.desk.specs.Opening.{open_code, opening, opening_of}
use Rattle.desk.proofs.openings.OpeningLaws.{opening_refusal_large}
use Rattle.desk.proofs.opening.open_desk.Goals as goal
use Rattle.desk.proofs.opening.open_desk.Goals.{then-not-is_limit-via-then-not-is_limit, then-not-is_limit-via-else-not-is_limit+then-not-is_limit-2}

pub returns-then-list-gt-PLACES : goal.returns-then-list-gt-PLACES
unfolding opening open_code opening_of
returns-then-list-gt-PLACES c = grind (arith, common_steps)

pub returns-then-not-is_limit : goal.returns-then-not-is_limit
unfolding opening open_code opening_of
returns-then-not-is_limit c =
    let down = c.ranges.down in
    let up = c.ranges.up in
    elim c.then-not-is_limit.branch [
      | then-not-is_limit-via-then-not-is_limit w ↦ grind (arith, common_steps, to_z-of_z)
      | then-not-is_limit-via-else-not-is_limit+then-not-is_limit-2 w ↦ grind (arith, common_steps, to_z-of_z)
    ]

pub returns-in_err-check_list : goal.returns-in_err-check_list
unfolding opening open_code opening_of
returns-in_err-check_list c =
    let down = c.ranges.down in
    let up = c.ranges.up in
    let p = err_from_is_err_and c.from_residual.result c.from_residual.ensures.1 in
    let large = opening_refusal_large c.in_err-check_list.field-0.0 in
    rw (p.1, p.2) (grind (arith, common_steps, to_z-of_z, large, c.in_err-check_list.ensures))

pub returns : goal.returns
unfolding opening open_code opening_of opened_with
returns c =
    let down = c.ranges.down in
    let up = c.ranges.up in
    grind (arith, common_steps, to_z-of_z, c.in_ok-check_list.ensures)
