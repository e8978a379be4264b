-- `desk::record::Desk::check` meets its contract.
-- Assumes nothing.
use Rattle.std.proofs.lemmas.Grind.{common_steps}
use Rattle.std.proofs.lemmas.Result.{err_from_is_err_and}
use native.Mathlib.Omega.{arith}
use Rattle.desk.specs.Refusal.{call_fault}
use Rattle.desk.proofs.acting.CallLaws.{refusal_large}
use Rattle.desk.proofs.record.Desk.check.Goals as goal

pub returns-in_err-check_record : goal.returns-in_err-check_record
unfolding call_fault
returns-in_err-check_record c =
    let p = err_from_is_err_and c.from_residual.result c.from_residual.ensures.1 in
    let large = refusal_large c.in_err-check_record.field-0.0 in
    rw (p.1, p.2) (grind (arith, common_steps, large, c.in_err-check_record.ensures))

pub returns-in_err-check_override : goal.returns-in_err-check_override
unfolding call_fault
returns-in_err-check_override c =
    let p = err_from_is_err_and c.from_residual-in_err-check_override.result c.from_residual-in_err-check_override.ensures.1 in
    let large = refusal_large c.in_err-check_override.field-0.0 in
    rw (p.1, p.2) (grind (arith, common_steps, large, c.in_ok-check_record.ensures, c.in_err-check_override.ensures))

pub returns-in_err-check_limit : goal.returns-in_err-check_limit
unfolding call_fault
returns-in_err-check_limit c =
    let p = err_from_is_err_and c.from_residual-in_err-check_limit.result c.from_residual-in_err-check_limit.ensures.1 in
    let large = refusal_large c.in_err-check_limit.field-0.0 in
    rw (p.1, p.2) (grind (arith, common_steps, large, c.in_ok-check_record.ensures, c.in_ok-check_override.ensures, c.in_err-check_limit.ensures))

pub returns : goal.returns
unfolding call_fault
returns c = grind (arith, common_steps, c.in_ok-check_record.ensures, c.in_ok-check_override.ensures, c.in_ok-check_limit.ensures, c.check_id.ensures)
