-- To be believed. What a call answers, the record after it and the lent buffer after it (document 01, 'The desk': refusals
-- return the record as it was handed in and count 0; the frames stand joined from the buffer's start, the count is their bytes
-- in all, and past them the buffer is unchanged).
-- Assumes nothing.
use Rattle.std.specs.Prelude.{ℕ, ◌≡◌, cond, List, [], leb, eqb, length, Result}
use Rattle.octets.specs.Put.{at_front}
use Rattle.desk.specs.declared.call.Call.{Call}
use Rattle.desk.specs.declared.record.Desk.{Desk}
use Rattle.desk.specs.declared.done.Accepted.{Accepted}
use Rattle.desk.specs.declared.done.Refusal.{Refusal}
use Rattle.desk.specs.declared.done.Done.{Done}
use Rattle.desk.specs.Codes.{answer_code, answer_count, done_code, done_count}
use Rattle.desk.specs.Command.{Command, frames_of}
use Rattle.desk.specs.Refusal.{call_fault}
use Rattle.desk.specs.Plan.{Outcome, plan}

-- a refusal: the record as it was handed in, and nothing sent
abbrev pub refused : {A : Type 0} → ℕ → Desk → Outcome (List A)
refused code d = record { code = code; desk = d; sent = [] }

-- an accepted call that is not deferred: what it sends, and the next record
abbrev pub accepted : {A : Type 0} → Desk → List A → Outcome (List A)
accepted next sent = record { code = 0; desk = next; sent = sent }

-- a call whatever room it is lent: its fault, or its plan
unfoldable pub decided : Call → Desk → Outcome (List Command)
decided c d = cond (eqb (call_fault c d) 0) (plan c d) (refused (call_fault c d) d)

-- the same with the frames of its commands
unfoldable pub framed : Outcome (List Command) → Outcome (List ℕ)
framed o = record { code = o.code; desk = o.desk; sent = frames_of o.sent }

-- 34 where fewer bytes are lent than the frames need
unfoldable pub delivered : ℕ → Desk → Outcome (List ℕ) → Outcome (List ℕ)
delivered room d o = cond (leb (length o.sent) room) o (refused 34 d)

-- what a call does that is lent so many bytes
unfoldable pub outcome : Call → ℕ → Desk → Outcome (List ℕ)
outcome c room d = delivered room d (framed (decided c d))

-- what its function returns, by document 01's numbers
pub record Reply : Type 0 where
  pub code : ℕ
  pub count : ℕ
  pub desk : Desk

unfoldable pub returned : Outcome (List ℕ) → Reply
returned o = record { code = o.code; count = length o.sent; desk = o.desk }

-- the same of its answer
abbrev pub done_numbers : Done → Reply
done_numbers r = record { code = done_code r; count = done_count r; desk = r.desk }

-- the buffer after it
unfoldable pub buffer_after : Outcome (List ℕ) → List ℕ → List ℕ
buffer_after o before = at_front o.sent before

-- both: the promise of a call
pub record Returned (o : Outcome (List ℕ)) (before : List ℕ) (r : Done) (after : List ℕ) : Type 0 where
  pub answered : done_numbers r ≡ returned o
  pub buffer : after ≡ buffer_after o before

-- the same but for the record: what the tests and the frames leave
pub record Answered (o : Outcome (List ℕ)) (before : List ℕ) (r : Result Accepted Refusal) (after : List ℕ) : Type 0 where
  pub code : answer_code r ≡ o.code
  pub count : answer_count r ≡ length o.sent
  pub buffer : after ≡ buffer_after o before
