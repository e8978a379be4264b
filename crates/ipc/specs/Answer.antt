-- To be believed. The reader's answer, as document 01 has it ('What the reader says').
-- Assumes nothing.
use Rattle.std.specs.Prelude.{ℕ, ℤ, Option, Some, None, Result, Ok, Err}
use Rattle.ipc.specs.declared.ids.Tag.{Tag}
use Rattle.ipc.specs.declared.reading.Value.{Value}
use Rattle.ipc.specs.declared.reading.Frame.{Frame}
use Rattle.ipc.specs.declared.reading.Refusal.{Refusal}
use Rattle.bencode.specs.Fault.{cause_code}

-- what is read: nothing, a message or a handshake
pub data Kind : Type 0 where
  no_kind : Kind
  message : Kind
  handshake : Kind

-- the value that an answer names. Offsets count from the frame's first byte
pub data Content : Type 0 where
  nothing : Content
  integer : ℤ → Content
  text : ℕ → ℕ → Content
  part : ℕ → ℕ → Content
  versions : ℕ → ℕ → Content

-- an answer: its code, the offset of a fault, the bytes consumed, and what is read
pub record Answer : Type 0 where
  pub code : ℕ
  pub offset : ℕ
  pub consumed : ℕ
  pub kind : Kind
  pub key : ℕ
  pub tag : ℕ
  pub value : Content

-- a refusal with a code and an offset
abbrev pub refused : ℕ → ℕ → Answer
refused c at = record { code = c; offset = at; consumed = 0; kind = no_kind; key = 0; tag = 0; value = nothing }

-- a message that is accepted
abbrev pub accepted : ℕ → ℕ → ℕ → Content → Answer
accepted used k t v = record { code = 0; offset = 0; consumed = used; kind = message; key = k; tag = t; value = v }

-- a handshake that is accepted
abbrev pub accepted_handshake : ℕ → ℕ → ℕ → Answer
accepted_handshake used low high = record { code = 0; offset = 0; consumed = used; kind = handshake; key = 0; tag = 0; value = versions low high }

-- a message whose value is off its key's format
abbrev pub off_format : ℕ → ℕ → Answer
off_format k t = record { code = 22; offset = 0; consumed = 0; kind = message; key = k; tag = t; value = nothing }

-- the number of a tag, and 0 for none
abbrev pub tag_number : Option Tag → ℕ
tag_number (Some t) = t.0
tag_number None = 0

-- the content of a message's value
abbrev pub content_of : Value → Content
content_of Value.Nothing = nothing
content_of (Value.Integer z) = integer z
content_of (Value.Text at n) = text at n
content_of (Value.Part at n) = part at n

-- document 01's answer for each refusal
abbrev pub refusal_answer : Refusal → Answer
refusal_answer Refusal.Incomplete = refused 1 0
refusal_answer (Refusal.NoDigit at) = refused 2 at
refusal_answer Refusal.OverProtocol = refused 3 0
refusal_answer Refusal.OverLimit = refused 4 0
refusal_answer (Refusal.Payload f) = refused (cause_code f.cause) f.offset
refusal_answer Refusal.NoMessage = refused 20 0
refusal_answer Refusal.NoHandshake = refused 21 0
refusal_answer (Refusal.OffFormat k t) = off_format k (tag_number t)

-- its code
abbrev pub refusal_code : Refusal → ℕ
refusal_code r = (refusal_answer r).code

-- the answer to a frame that is accepted
abbrev pub frame_answer : Frame → Answer
frame_answer (Frame.Message m used) = accepted used m.key (tag_number m.tag) (content_of m.value)
frame_answer (Frame.Handshake v used) = accepted_handshake used v.min v.max

-- the answer to a reading, by the answer for each of its refusals
abbrev pub answer_by : {E : Type 0} → (E → Answer) → Result Frame E → Answer
answer_by answer (Ok f) = frame_answer f
answer_by answer (Err e) = answer e

-- document 01's answer for each case of what the reader answers
abbrev pub answer_of : Result Frame Refusal → Answer
answer_of r = answer_by refusal_answer r
