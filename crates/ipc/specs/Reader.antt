-- Pinned by `AnswersByRowBy`. The reader: what a frame at the front of bytes comes to, in document 01's order of refusals.
-- Assumes nothing.
use Rattle.std.specs.Prelude.{ℕ, ◌+◌, cond, List, eqb, leb, length, Result, Ok, Err}
use Rattle.bencode.specs.declared.profile.Profile.{Profile}
use Rattle.octets.specs.Bytes.{byte_at, slice}
use Rattle.bencode.specs.Letters.{letter_d, letter_l}
use Rattle.bencode.specs.Walk.{payload_at}
use Rattle.ipc.specs.declared.header.PayloadLength.{PayloadLength}
use Rattle.ipc.specs.declared.reading.Frame.{Frame}
use Rattle.ipc.specs.declared.reading.Refusal.{Refusal}
use Rattle.ipc.specs.Answer.{Answer, answer_of}
use Rattle.ipc.specs.Header.{header_length, read_header, sized}
use Rattle.ipc.specs.Message.{message_reading}
use Rattle.ipc.specs.Handshake.{handshake_reading}
use Rattle.bencode.specs.Fault.{Walk}

-- what is read of one bencoded value, by its first byte
abbrev pub by_kind : List ℕ → Result Frame Refusal
by_kind p = cond (eqb (byte_at p 0) letter_d) (handshake_reading p) (cond (eqb (byte_at p 0) letter_l) (message_reading p) (Err Refusal.NoMessage))

abbrev pub walked : List ℕ → Walk → Result Frame Refusal
walked p (Ok end) = by_kind p
walked p (Err f) = Err (Refusal.Payload f)

-- what is read of a payload in a profile
unfoldable pub payload_reading : Profile → List ℕ → Result Frame Refusal
payload_reading profile p = walked p (payload_at profile p)

-- what is read of a frame whose payload has a length
unfoldable pub length_reading : Profile → List ℕ → ℕ → Result Frame Refusal
length_reading profile s n = cond (leb (header_length + n) (length s)) (payload_reading profile (slice s header_length (header_length + n))) (Err Refusal.Incomplete)

abbrev pub by_size : Profile → List ℕ → Result PayloadLength Refusal → Result Frame Refusal
by_size profile s (Ok n) = length_reading profile s n.0
by_size profile s (Err r) = Err r

abbrev pub by_header : Profile → List ℕ → Result ℕ Refusal → Result Frame Refusal
by_header profile s (Ok n) = by_size profile s (sized n)
by_header profile s (Err r) = Err r

-- what is read of the frame at the front of bytes in a profile
abbrev pub reading_by : Profile → List ℕ → Result Frame Refusal
reading_by profile s = by_header profile s (read_header s)

-- the answer to it, as document 01 has it
abbrev pub read_frame_by : Profile → List ℕ → Answer
read_frame_by profile s = answer_of (reading_by profile s)

-- both in the loose profile, which is the default
unfoldable pub frame_reading : List ℕ → Result Frame Refusal
frame_reading s = reading_by Profile.Loose s

unfoldable pub read_frame : List ℕ → Answer
read_frame s = read_frame_by Profile.Loose s
