-- What a call's function returns and leaves in the room for the longest, as a run's answer.
-- Assumes nothing.
use Prim.Native.Nat.{ℕ, ◌+◌, ◌-◌, ◌≤◌}
use mathlib.Core.Path.{◌≡◌, refl, ap, ◌∙◌}
use mathlib.Core.List.{List, ◌++◌}
use native.Mathlib.Omega.{arith}
use lib.ListN.{length, length-append, length-drop, take, drop, replicate}
use lib.Seq.{take-append_seam}
use Rattle.desk.specs.declared.call.Call.{Call}
use Rattle.desk.specs.declared.record.Desk.{Desk}
use Rattle.desk.specs.declared.done.Done.{Done}
use Rattle.desk.specs.Command.{longest_frames}
use Rattle.desk.specs.Codes.{done_code, done_count}
use Rattle.desk.specs.Calls.{Reply, outcome, returned, buffer_after, Returned}
use Rattle.strip.specs.declared.run.Run.{Run}
use Rattle.strip.specs.Record.{call_kind}
use Rattle.strip.specs.Line.{call_text}
use Rattle.strip.specs.Answer.{answer}
use Rattle.strip.specs.Run.{with_desk, printing, performed}

-- the room lent
abbrev pub lent : List ℕ
lent = replicate longest_frames 0

abbrev pub Answered : Call → Desk → Done → List ℕ → Type 0
Answered c d r after = Returned (outcome c longest_frames d) lent r after

module _ (c : Call) (d : Desk) {r : Done} {after : List ℕ} (p : Answered c d r after) where
  pub answer_code : done_code r ≡ (answer c d).code
  unfolding answer returned
  answer_code = ap (λ (x : Reply). x.code) p.answered

  pub answer_desk : r.desk ≡ (answer c d).desk
  unfolding answer returned
  answer_desk = ap (λ (x : Reply). x.desk) p.answered

  pub answer_count : done_count r ≡ length (answer c d).sent
  unfolding answer returned
  answer_count = ap (λ (x : Reply). x.count) p.answered

  left : after ≡ (answer c d).sent ++ drop (length (answer c d).sent) lent
  unfolding answer buffer_after
  left = p.buffer

  -- the bytes at the front are the call's
  pub answer_bytes : take (done_count r) after ≡ (answer c d).sent
  answer_bytes = rw (answer_count, left) (take-append_seam (answer c d).sent (drop (length (answer c d).sent) lent))

  length_left : length after ≡ length (answer c d).sent + (longest_frames - length (answer c d).sent)
  length_left =
      let bytes = (answer c d).sent in
      ap length left ∙ length-append bytes (drop (length bytes) lent) ∙ ap (λ n. length bytes + n) (length-drop (length bytes) lent)

  -- they are within it, and no more than was lent
  pub answer_within : done_count r ≤ length after
  answer_within = omega (arith, length_left, answer_count)

  pub answer_fits : length after ≡ longest_frames → length (take (done_count r) after) ≤ longest_frames
  answer_fits e = rw answer_bytes (omega (arith, length_left, e))

-- the step of a call, by what its function returned
pub performed_is : {d : Done} {after : List ℕ} (r : Run) (c : Call) (next : ℕ) → Answered c r.desk d after
    → printing (call_text (call_kind c) (done_code d) (take (done_count d) after)) (with_desk d.desk r.over next r) ≡ performed c next r
unfolding performed
performed_is r c next p = rw (answer_bytes c r.desk p, answer_code c r.desk p, answer_desk c r.desk p) refl
