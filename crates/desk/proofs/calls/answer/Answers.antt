-- `desk::calls::answer` meets its contract: a refusal, a deferred request, or its frames.
-- Assumes nothing.
use Rattle.std.proofs.lemmas.Result.{err_from_is_err_and}
use Prim.Native.Nat.{ℕ, ◌<◌}
use mathlib.Core.Path.{◌≡◌, refl, sym, ◌∙◌}
use mathlib.Core.List.{List, []}
use native.Mathlib.Omega.{arith}
use lib.ListN.{length, replicate}
use Rattle.octets.specs.Put.{Wrote}
use Rattle.desk.specs.declared.call.Call.{Call}
use Rattle.desk.specs.declared.record.Desk.{Desk}
use Rattle.desk.specs.Command.{frames_of, longest_frames}
use Rattle.desk.specs.Refusal.{call_fault}
use Rattle.desk.specs.Plan.{desk_after, commands_of}
use Rattle.desk.specs.Calls.{refused}
use Rattle.desk.proofs.acting.CallLaws.{nothing_sent, answered_as, delivered_short, delivered_put, outcome_refused, outcome_deferred, outcome_sends, refusal_large}
use Rattle.desk.proofs.acting.PlanLaws.{commands_length}
use Rattle.desk.proofs.writing.PutFrames.{Front, front_wrote, front_count}
use Rattle.desk.proofs.acting.RefusalLaws.{accepted_call}
use Rattle.desk.proofs.calls.answer.Goals as goal

-- the frames stand at the front
front : (call : Call) (d : Desk) {after : List ℕ} {n : ℕ} → call_fault call d ≡ 0 → Wrote (replicate longest_frames 0) 0 (frames_of (commands_of call d)) after n → Front (frames_of (commands_of call d)) after n
front call d accepted wrote = front_wrote (commands_length call d (accepted_call call d accepted)) wrote

pub returns-in_err-check : goal.returns-in_err-check
returns-in_err-check c =
    let p = err_from_is_err_and c.from_residual.result c.from_residual.ensures.1 in
    let e = c.in_err-check.field-0.0 in
    let d = c.args.d.now in
    rw (p.1, p.2)
    (nothing_sent (refused (call_fault c.args.call d) d)
    (outcome_refused c.args.call (length c.args.out.now) d (λ z. omega (arith, refusal_large e, c.in_err-check.ensures, z)))
    refl c.in_err-check.ensures refl)

pub returns-then-defers : goal.returns-then-defers
returns-then-defers c =
    let d = c.args.d.now in
    nothing_sent (record { code = 1; desk = desk_after c.args.call d; sent = [] })
    (outcome_deferred c.args.call (length c.args.out.now) d (sym c.in_ok-check.ensures) (sym c.defers.ensures ∙ c.if-defers.true))
    refl refl refl

pub returns-then-short : goal.returns-then-short
returns-then-short c =
    let d = c.args.d.now in
    let bytes = frames_of (commands_of c.args.call d) in
    let frames = front c.args.call d (sym c.in_ok-check.ensures) c.put_commands-n.ensures in
    let short : length c.args.out.now < length bytes = omega (arith, frames.counted, c.if-short.true) in
    nothing_sent (refused 34 d)
    (outcome_sends c.args.call (length c.args.out.now) d (sym c.in_ok-check.ensures) (sym c.defers.ensures ∙ c.if-defers.false)
    ∙ delivered_short d (desk_after c.args.call d) bytes c.args.out.now short)
    refl refl refl

pub slice_bounds-frames-end : goal.slice_bounds-frames-end
slice_bounds-frames-end c = (front c.args.call c.args.d.now (sym c.in_ok-check.ensures) c.put_commands-n.ensures).inside

pub slice_bounds-put_bytes-end : goal.slice_bounds-put_bytes-end
slice_bounds-put_bytes-end c = front_count (front c.args.call c.args.d.now (sym c.in_ok-check.ensures) c.put_commands-n.ensures)

pub returns : goal.returns
returns c =
    let d = c.args.d.now in
    let frames = front c.args.call d (sym c.in_ok-check.ensures) c.put_commands-n.ensures in
    answered_as (outcome_sends c.args.call (length c.args.out.now) d (sym c.in_ok-check.ensures) (sym c.defers.ensures ∙ c.if-defers.false))
    (delivered_put d (desk_after c.args.call d) (frames_of (commands_of c.args.call d)) c.args.out.now (omega (arith, frames.counted, c.if-short.false)) (rw frames.front at c.put_bytes.ensures))
