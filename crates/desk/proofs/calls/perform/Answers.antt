-- `desk::calls::perform` meets its contract: the record after an accepted call, or as it was handed in.
-- Assumes nothing.
use Rattle.std.specs.Prelude.{Result, Err}
use Prim.Native.Nat.{ℕ, ◌≤◌}
use mathlib.Core.Path.{◌≡◌, refl, ap}
use mathlib.Core.List.{List}
use native.Mathlib.Omega.{arith}
use lib.ListN.{length}
use Rattle.desk.specs.declared.call.Call.{Call}
use Rattle.desk.specs.declared.record.Desk.{Desk}
use Rattle.desk.specs.declared.done.Accepted.{Accepted}
use Rattle.desk.specs.declared.done.Refusal.{Refusal}
use Rattle.desk.specs.Codes.{answer_code}
use Rattle.desk.specs.Calls.{outcome, returned, Answered, Returned}
use Rattle.desk.proofs.acting.CallLaws.{outcome_changes, outcome_keeps, accepted_small, refusal_large}
use Rattle.desk.proofs.calls.perform.Goals as goal

-- a refused call returns the record that was handed in
kept : (call : Call) (d : Desk) (out : List ℕ) {after : List ℕ} {r : Result Accepted Refusal} {e : Refusal} → r ≡ Err e → Answered (outcome call (length out) d) out r after
    → Returned (outcome call (length out) d) out (record { answer = r; desk = d }) after
unfolding returned
kept call d out {e = e} is a =
    let large : 2 ≤ (outcome call (length out) d).code = omega (arith, a.code, ap answer_code is, refusal_large e) in
    record { answered = rw (a.code, a.count, outcome_keeps call (length out) d large) refl; buffer = a.buffer }

pub returns-in-Ok : goal.returns-in-Ok
unfolding returned
returns-in-Ok c =
    let a = c.answer-answer.ensures in
    let small : (outcome c.args.call (length c.args.out.now) c.args.d).code ≤ 1 = omega (arith, a.code, ap answer_code c.in-Ok.is, accepted_small c.in-Ok.field-0) in
    record { answered = rw (a.code, a.count, c.after.ensures, outcome_changes c.args.call (length c.args.out.now) c.args.d small) refl; buffer = a.buffer }

pub returns-in-Err-Room : goal.returns-in-Err-Room
returns-in-Err-Room c = kept c.args.call c.args.d c.args.out.now c.in-Err-Room.is c.answer-answer.ensures

pub returns-in-Err : goal.returns-in-Err
returns-in-Err c = kept c.args.call c.args.d c.args.out.now c.in-Err.is c.answer-answer.ensures
