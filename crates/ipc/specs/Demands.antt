-- Statements of frames as a whole. Each is a type; its proof stands in proofs/ under the same name in lower case. A name with
-- For is the statement over any build, so that a wrong one can be refuted by it (Worthless).
-- Assumes nothing.
use Rattle.std.specs.Prelude.{ℕ, ◌+◌, ◌*◌, ◌≤◌, ◌<◌, ◌≡◌, ◌↔◌, ◌⊎◌, true, List, [], ◌∷◌, ◌++◌, length, take, Ok, Result, Err}
use Rattle.bencode.specs.declared.fault.Fault.{Fault}
use Rattle.bencode.specs.declared.profile.Profile.{Profile}
use Rattle.octets.specs.Bytes.{slice}
use Rattle.bencode.specs.Depth.{largest_depth}
use Rattle.bencode.specs.Integers.{InRange}
use Rattle.bencode.specs.Value.{Value, list, Values, encode, WellFormed}
use Rattle.bencode.specs.Walk.{payload_at}
use Rattle.ipc.specs.declared.keys.Class.{Class}
use Rattle.ipc.specs.declared.writer.Given.{Given}
use Rattle.ipc.specs.Answer.{Answer, Content, nothing, integer, text, part, versions, message, refused, accepted, accepted_handshake}
use Rattle.ipc.specs.Header.{header_length, largest_payload, protocol_payload, hex_value, read_header, header_code, header_offset, length_code}
use Rattle.ipc.specs.Reader.{read_frame_by, read_frame}
use Rattle.ipc.specs.Hex.{upper_header}
use Rattle.ipc.specs.Keys.{class_of, is_written}
use Rattle.ipc.specs.Meaning.{is_id_value, every, meaning}
use Rattle.ipc.specs.Writer.{code_by, written_count, is_id_list, payload_of, frame_of, write_answer, LeavesBy, Leaves}
use Rattle.ipc.specs.HandshakeWriter.{handshake_payload, handshake_written}
use Rattle.ipc.specs.declared.writer.WriteRefusal.{WriteRefusal}
use Rattle.bencode.specs.Fault.{cause_code}

-- bytes that are hex digits of either case
pub data HexDigits : List ℕ → Type 0 where
  none : HexDigits []
  more : {c : ℕ} {cs : List ℕ} → hex_value c < 16 → HexDigits cs → HexDigits (c ∷ cs)

-- the number that hex digits stand for, read after those of v
unfoldable pub hex_from : ℕ → List ℕ → ℕ
hex_from v [] = v
hex_from v (c ∷ cs) = hex_from (16 * v + hex_value c) cs

-- a frame with an answer in a profile: 8 hex digits for a length of at most 32,768, the encoding of a well-formed value of
-- that length that means the answer, and any bytes
pub record FramedBy (profile : Profile) (s : List ℕ) (a : Answer) : Type 0 where
  pub header : List ℕ
  pub payload : Value
  pub rest : List ℕ
  pub is : s ≡ header ++ (encode payload ++ rest)
  pub eight : length header ≡ header_length
  pub hex : HexDigits header
  pub number : hex_from 0 header ≡ length (encode payload)
  pub small : length (encode payload) ≤ largest_payload
  pub formed : WellFormed profile largest_depth payload
  pub means : meaning (header_length + length (encode payload)) payload ≡ a

-- in the loose profile, the default
abbrev pub Framed : List ℕ → Answer → Type 0
Framed s a = FramedBy Profile.Loose s a

-- ---- reading
-- a frame of the grammar has the answer that it means, be it accepted or 20, 21 or 22
abbrev pub AnswersMeaningFor : (List ℕ → Answer) → Type 0
AnswersMeaningFor read = (s : List ℕ) (a : Answer) → Framed s a → read s ≡ a

abbrev pub AnswersMeaning : Type 0
AnswersMeaning = AnswersMeaningFor read_frame

-- the same in every profile
abbrev pub AnswersMeaningBy : Type 0
AnswersMeaningBy = (profile : Profile) (s : List ℕ) (a : Answer) → FramedBy profile s a → read_frame_by profile s ≡ a

-- demand 2: what is accepted, and what is refused by 20 to 22, is what the grammar says: with the same values, and nothing else
abbrev pub AcceptsExactlyFor : (List ℕ → Answer) → Type 0
AcceptsExactlyFor read = (s : List ℕ) (a : Answer) → (a.code ≡ 0) ⊎ (20 ≤ a.code) → (read s ≡ a) ↔ Framed s a

abbrev pub AcceptsExactly : Type 0
AcceptsExactly = AcceptsExactlyFor read_frame

-- the same of a reader in every profile
abbrev pub AcceptsExactlyByFor : (Profile → List ℕ → Answer) → Type 0
AcceptsExactlyByFor read = (profile : Profile) (s : List ℕ) (a : Answer) → (a.code ≡ 0) ⊎ (20 ≤ a.code) → (read profile s ≡ a) ↔ FramedBy profile s a

abbrev pub AcceptsExactlyBy : Type 0
AcceptsExactlyBy = AcceptsExactlyByFor read_frame_by

-- bytes that start with 8 hex digits for a number, and the bytes after them
pub record Headed (s : List ℕ) (n : ℕ) (after : List ℕ) : Type 0 where
  pub header : List ℕ
  pub is : s ≡ header ++ after
  pub eight : length header ≡ header_length
  pub hex : HexDigits header
  pub number : hex_from 0 header ≡ n

-- the rows of document 01's table 'What the reader says', with 10 and 11 of document 02: when bytes have an answer in a profile
pub data AnswerRowBy (profile : Profile) (s : List ℕ) : Answer → Type 0 where
  -- 0, and 20 to 22: a frame of the grammar
  framed : {a : Answer} → FramedBy profile s a → AnswerRowBy profile s a
  -- 1: no header fault, but the header or the payload is not all there
  short_header : HexDigits s → length s < header_length → AnswerRowBy profile s (refused 1 0)
  short_payload : (n : ℕ) (after : List ℕ) → Headed s n after → n ≤ largest_payload → length after < n → AnswerRowBy profile s (refused 1 0)
  -- 2: a header byte is not a hex digit; the first such one
  no_digit : (before after : List ℕ) (c : ℕ) → s ≡ before ++ (c ∷ after) → HexDigits before → length before < header_length → 16 ≤ hex_value c
      → AnswerRowBy profile s (refused 2 (length before))
  -- 3: over the protocol's limit
  over_protocol : (n : ℕ) (after : List ℕ) → Headed s n after → protocol_payload < n → AnswerRowBy profile s (refused 3 0)
  -- 4: over the library's
  over_limit : (n : ℕ) (after : List ℕ) → Headed s n after → largest_payload < n → n ≤ protocol_payload → AnswerRowBy profile s (refused 4 0)
  -- 5 to 10, and 11 in the strict profile: a fault of the payload
  payload_fault : (payload after : List ℕ) (f : Fault) → Headed s (length payload) (payload ++ after) → length payload ≤ largest_payload
      → payload_at profile payload ≡ Err f → AnswerRowBy profile s (refused (cause_code f.cause) f.offset)

-- in the loose profile, the default
abbrev pub AnswerRow : List ℕ → Answer → Type 0
AnswerRow s a = AnswerRowBy Profile.Loose s a

-- demand 1: each number is given when its row holds and never otherwise
abbrev pub AnswersByRowFor : (List ℕ → Answer) → Type 0
AnswersByRowFor read = (s : List ℕ) (a : Answer) → (read s ≡ a) ↔ AnswerRow s a

abbrev pub AnswersByRow : Type 0
AnswersByRow = AnswersByRowFor read_frame

-- the same in every profile
abbrev pub AnswersByRowBy : Type 0
AnswersByRowBy = (profile : Profile) (s : List ℕ) (a : Answer) → (read_frame_by profile s ≡ a) ↔ AnswerRowBy profile s a

-- request 06: but for 11 the strict reader answers as the loose one does
abbrev pub StrictIsLoose : Type 0
StrictIsLoose = (s : List ℕ) → ((read_frame_by Profile.Strict s).code ≡ 11 → ⊥) → read_frame_by Profile.Strict s ≡ read_frame s

-- a fault of the header, or of the length that it says, is the reader's answer, and where it has none it says a length
pub record HeaderAnswered (s : List ℕ) : Type 0 where
  pub fault : (header_code (read_header s) ≡ 0 → ⊥) → read_frame s ≡ refused (header_code (read_header s)) (header_offset (read_header s))
  pub says : (header_code (read_header s) ≡ 0) ↔ ((n : ℕ) × (read_header s ≡ Ok n))
  pub place : header_code (read_header s) ≡ 0 → header_offset (read_header s) ≡ 0
  pub long : (n : ℕ) → read_header s ≡ Ok n → (length_code n ≡ 0 → ⊥) → read_frame s ≡ refused (length_code n) 0

-- a length is taken exactly where it is within the limit
abbrev pub HeadersAnswered : Type 0
HeadersAnswered = ((s : List ℕ) → HeaderAnswered s) × ((n : ℕ) → (length_code n ≡ 0) ↔ (n ≤ largest_payload))

-- ---- writing
-- bytes that are the encoding of a list of torrent IDs
pub record IdList (s : List ℕ) : Type 0 where
  pub ids : Values
  pub each : every is_id_value ids ≡ true
  pub is : s ≡ encode (list ids)

-- a list of torrent IDs that is handed in is judged by the grammar, whatever its length
abbrev pub IdListExactly : Type 0
IdListExactly = (s : List ℕ) → (is_id_list s ≡ true) ↔ IdList s

-- an integer that is handed in fits the machine's 64 bits
abbrev pub GivenFits : Given → Type 0
GivenFits Given.Nothing = Unit {0}
GivenFits (Given.Integer z) = InRange z
GivenFits Given.Bytes = Unit {0}

-- how a reader names the bytes of a class: a text, or a list as it stands
abbrev pub bytes_named : Class → ℕ → ℕ → Content
bytes_named Class.Unlisted at n = part at n
bytes_named Class.Boolean at n = part at n
bytes_named Class.Ignored at n = part at n
bytes_named Class.Text at n = text at n
bytes_named Class.Integer at n = part at n
bytes_named Class.TextList at n = part at n
bytes_named Class.TorrentList at n = part at n
bytes_named Class.Port at n = part at n
bytes_named Class.IdList at n = part at n

-- the content that a frame's reader names is the value that was handed in
abbrev pub Named : Class → List ℕ → Given → List ℕ → Content → Type 0
Named class frame Given.Nothing s c = c ≡ nothing
Named class frame (Given.Integer z) s c = c ≡ integer z
Named class frame Given.Bytes s c = (at : ℕ) × (c ≡ bytes_named class at (length s)) × (slice frame at (at + length s) ≡ s)

-- demand 1: a refusal, by whatever code, has count 0 and leaves the lent buffer as it was
abbrev pub RefusalKeeps : Type 1
RefusalKeeps = (E : Type 0) (code_of : E → ℕ) (answer r : Result ℕ E) (payload before after : List ℕ) → LeavesBy code_of answer payload before r after
    → (code_by code_of r ≡ 0 → ⊥) → (written_count r ≡ 0) × (after ≡ before)

-- a writer, whatever its refusals are: what it answers to a key, a value, the bytes beside it and a tag, in a room, and the frame
-- that it leaves
pub record Writer (E : Type 0) : Type 0 where
  pub answer : ℕ → Given → List ℕ → ℕ → ℕ → Result ℕ E
  pub frame : ℕ → Given → List ℕ → ℕ → List ℕ

-- ours
abbrev pub writer : Writer WriteRefusal
writer = record { answer = write_answer; frame = λ key given s tag. frame_of (payload_of key given s tag) }

-- demand 2: each frame written reads back as its record, whatever follows it
abbrev pub ReadsBackFor : {E : Type 0} → Writer E → Type 0
ReadsBackFor w = (key tag room n : ℕ) (given : Given) (s rest : List ℕ) → GivenFits given → w.answer key given s tag room ≡ Ok n
    → (c : Content) × (read_frame (w.frame key given s tag ++ rest) ≡ accepted n key tag c) × Named (class_of key) (w.frame key given s tag) given s c

abbrev pub ReadsBack : Type 0
ReadsBack = ReadsBackFor writer

-- the same in every profile, of messages; of handshakes see `HandshakeNotStrict`
abbrev pub ReadsBackBy : Type 0
ReadsBackBy = (profile : Profile) (key tag room n : ℕ) (given : Given) (s rest : List ℕ) → GivenFits given → writer.answer key given s tag room ≡ Ok n
    → (c : Content) × (read_frame_by profile (writer.frame key given s tag ++ rest) ≡ accepted n key tag c) × Named (class_of key) (writer.frame key given s tag) given s c

-- the same of the buffer that was lent
abbrev pub BufferReadsBack : Type 0
BufferReadsBack = (key tag n : ℕ) (given : Given) (s before after : List ℕ) → GivenFits given
    → Leaves (write_answer key given s tag (length before)) (payload_of key given s tag) before (Ok n) after
    → (c : Content) × (read_frame after ≡ accepted n key tag c) × Named (class_of key) (frame_of (payload_of key given s tag)) given s c

-- a writer of handshakes, whatever its refusals are: what it answers to a range in a room, and the frame that it leaves
pub record HandshakeWriter (E : Type 0) : Type 0 where
  pub answer : ℕ → ℕ → ℕ → Result ℕ E
  pub frame : ℕ → ℕ → List ℕ

-- ours
abbrev pub handshake_writer : HandshakeWriter WriteRefusal
handshake_writer = record { answer = handshake_written; frame = λ low high. frame_of (handshake_payload low high) }

-- each handshake written reads back as its range
abbrev pub HandshakeReadsBackFor : {E : Type 0} → HandshakeWriter E → Type 0
HandshakeReadsBackFor w = (low high room n : ℕ) (rest : List ℕ) → w.answer low high room ≡ Ok n → read_frame (w.frame low high ++ rest) ≡ accepted_handshake n low high

abbrev pub HandshakeReadsBack : Type 0
HandshakeReadsBack = HandshakeReadsBackFor handshake_writer

-- the strict reader refuses each of them by 11: `min` is written before `max`
abbrev pub HandshakeNotStrict : Type 0
HandshakeNotStrict = (low high room n : ℕ) (rest : List ℕ) → handshake_writer.answer low high room ≡ Ok n → (read_frame_by Profile.Strict (handshake_writer.frame low high ++ rest)).code ≡ 11

-- the value to hand in for what a reader named, and the bytes of it
abbrev pub given_of : Content → Given
given_of nothing = Given.Nothing
given_of (integer z) = Given.Integer z
given_of (text at n) = Given.Bytes
given_of (part at n) = Given.Bytes
given_of (versions low high) = Given.Nothing

abbrev pub bytes_of : List ℕ → Content → List ℕ
bytes_of f nothing = []
bytes_of f (integer z) = []
bytes_of f (text at n) = slice f at (at + n)
bytes_of f (part at n) = slice f at (at + n)
bytes_of f (versions low high) = []

-- demand 2: an accepted frame of a key that is written, unless its value is ignored, is written again, given room, as the
-- same bytes but for the case of hex letters
abbrev pub WritesBackFor : {E : Type 0} → Writer E → Type 0
WritesBackFor w = (f : List ℕ) (a : Answer) (room : ℕ) → read_frame f ≡ a → a.code ≡ 0 → a.kind ≡ message → is_written a.key ≡ true → (class_of a.key ≡ Class.Ignored → ⊥) → a.consumed ≤ room
    → (w.answer a.key (given_of a.value) (bytes_of f a.value) a.tag room ≡ Ok a.consumed)
    × (w.frame a.key (given_of a.value) (bytes_of f a.value) a.tag ≡ upper_header (take a.consumed f))

abbrev pub WritesBack : Type 0
WritesBack = WritesBackFor writer
