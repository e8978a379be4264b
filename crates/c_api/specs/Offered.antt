-- To be believed. A message handed in by numbers.
-- Assumes nothing.
use Rattle.std.specs.Prelude.{ℕ, cond, List, [], eqb, ℤ, Result, Err, Option, None, Some}
use Rattle.ipc.specs.declared.writer.Given.{Given}
use Rattle.ipc.specs.Keys.{is_written}
use Rattle.ipc.specs.Writer.{payload_of, write_answer}
use Rattle.ipc.specs.declared.writer.WriteRefusal.{WriteRefusal}

-- a value that the writer takes, or none for a number that is no kind of value
abbrev pub Offered : Type 0
Offered = Option Given

-- the value of a kind: 0 nothing, 1 an integer, 2 bytes that stand beside it
unfoldable pub offered : ℕ → ℤ → Offered
offered kind z =
    cond (eqb kind 0) (Some Given.Nothing)
    (cond (eqb kind 1) (Some (Given.Integer z))
    (cond (eqb kind 2) (Some Given.Bytes) None))

-- the refusal of a value of no kind: it is off every format, and 40 comes before 41
unfoldable pub unknown_refusal : ℕ → WriteRefusal
unknown_refusal key = cond (is_written key) WriteRefusal.Value WriteRefusal.Key

-- the writer's answer
abbrev pub offered_answer : ℕ → Offered → List ℕ → ℕ → ℕ → Result ℕ WriteRefusal
offered_answer key (Some given) s tag room = write_answer key given s tag room
offered_answer key None s tag room = Err (unknown_refusal key)

-- the payload that is written; none for a value of no kind
abbrev pub offered_payload : ℕ → Offered → List ℕ → ℕ → List ℕ
offered_payload key (Some given) s tag = payload_of key given s tag
offered_payload key None s tag = []
