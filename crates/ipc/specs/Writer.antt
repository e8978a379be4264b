-- To be believed: refusals, `0:` for an ignored value, the buffer past a frame. A frame's bytes are else pinned by `ReadsBack`
-- and `WritesBack` (upper case: see Hex), a refused buffer by `RefusalKeeps`, `is_id_list` by `IdListExactly`. The writer of
-- messages (document 01, 'What the writer says').
-- Assumes nothing.
use Rattle.std.specs.Prelude.{ℕ, ◌+◌, ◌≡◌, Bool, true, false, cond, ◌&&◌, eqb, leb, ℤ, pos, length, Option, Some, None, Result, Ok, Err}
use Rattle.std.specs.Result.{result_and}
use mathlib.Core.List.{List, [], ◌∷◌, ◌++◌, flatten}
use Rattle.octets.specs.Bytes.{byte_at}
use Rattle.octets.specs.Put.{at_front}
use Rattle.bencode.specs.Letters.{letter_e, letter_l}
use Rattle.bencode.specs.Value.{integer, encode_string, encode}
use Rattle.bencode.specs.Integers.{within}
use Rattle.ipc.specs.declared.format.Items.{Items}
use Rattle.ipc.specs.declared.keys.Class.{Class}
use Rattle.ipc.specs.declared.writer.Given.{Given}
use Rattle.ipc.specs.Header.{header_length, largest_payload}
use Rattle.ipc.specs.Hex.{hex_header}
use Rattle.ipc.specs.Ids.{largest_tag}
use Rattle.ipc.specs.Keys.{key_text, class_of, is_written}
use Rattle.ipc.specs.Format.{largest_port, items_end}
use Rattle.ipc.specs.declared.writer.WriteRefusal.{WriteRefusal}

-- ---- what a writer answers: document 01's code and count
-- an answer's code, by the codes of its refusals; 0 for a count
abbrev pub code_by : {E : Type 0} → (E → ℕ) → Result ℕ E → ℕ
code_by code_of (Ok n) = 0
code_by code_of (Err e) = code_of e

abbrev pub write_refusal_code : WriteRefusal → ℕ
write_refusal_code WriteRefusal.Key = 40
write_refusal_code WriteRefusal.Value = 41
write_refusal_code WriteRefusal.Tag = 42
write_refusal_code WriteRefusal.Length = 43
write_refusal_code WriteRefusal.Room = 44

abbrev pub written_code : Result ℕ WriteRefusal → ℕ
written_code r = code_by write_refusal_code r

abbrev pub written_count : {E : Type 0} → Result ℕ E → ℕ
written_count (Ok n) = n
written_count (Err e) = 0

-- the buffer after an answer: the frame and then the bytes as they were, or all as it was
abbrev pub buffer_after : {E : Type 0} → Result ℕ E → List ℕ → List ℕ → List ℕ
buffer_after (Ok n) frame before = at_front frame before
buffer_after (Err e) frame before = before

-- ---- the format of a value that is handed in
-- is an end at an offset
abbrev pub ends_at : ℕ → Option ℕ → Bool
ends_at end (Some e) = eqb e end
ends_at end None = false

-- are bytes exactly one list of torrent IDs
unfoldable pub is_id_list : List ℕ → Bool
is_id_list s = eqb (byte_at s 0) letter_l && ends_at (length s) (items_end Items.Ids s 1)

-- is nothing in the format
abbrev pub nothing_fits : Class → Bool
nothing_fits Class.Unlisted = false
nothing_fits Class.Boolean = false
nothing_fits Class.Ignored = true
nothing_fits Class.Text = false
nothing_fits Class.Integer = false
nothing_fits Class.TextList = false
nothing_fits Class.TorrentList = false
nothing_fits Class.Port = false
nothing_fits Class.IdList = false

-- is an integer in the format
abbrev pub integer_fits : Class → ℤ → Bool
integer_fits Class.Unlisted z = false
integer_fits Class.Boolean z = within 0 1 z
integer_fits Class.Ignored z = false
integer_fits Class.Text z = false
integer_fits Class.Integer z = true
integer_fits Class.TextList z = false
integer_fits Class.TorrentList z = false
integer_fits Class.Port z = within 0 largest_port z
integer_fits Class.IdList z = false

-- are bytes, handed in as the reader would name them, in the format
abbrev pub bytes_fit : Class → List ℕ → Bool
bytes_fit Class.Unlisted s = false
bytes_fit Class.Boolean s = false
bytes_fit Class.Ignored s = false
bytes_fit Class.Text s = true
bytes_fit Class.Integer s = false
bytes_fit Class.TextList s = false
bytes_fit Class.TorrentList s = false
bytes_fit Class.Port s = false
bytes_fit Class.IdList s = is_id_list s

-- is a value that is handed in in the format; the bytes stand beside it
unfoldable pub value_fits : Class → Given → List ℕ → Bool
value_fits class Given.Nothing s = nothing_fits class
value_fits class (Given.Integer z) s = integer_fits class z
value_fits class Given.Bytes s = bytes_fit class s

-- ---- the frame
-- bytes as they are written: a text as a string, a list as it is
abbrev pub encode_bytes : Class → List ℕ → List ℕ
encode_bytes Class.Unlisted s = s
encode_bytes Class.Boolean s = s
encode_bytes Class.Ignored s = s
encode_bytes Class.Text s = encode_string s
encode_bytes Class.Integer s = s
encode_bytes Class.TextList s = s
encode_bytes Class.TorrentList s = s
encode_bytes Class.Port s = s
encode_bytes Class.IdList s = s

-- a value as it is written: `0:` for nothing
unfoldable pub encode_given : Class → Given → List ℕ → List ℕ
encode_given class Given.Nothing s = encode_string []
encode_given class (Given.Integer z) s = encode (integer z)
encode_given class Given.Bytes s = encode_bytes class s

-- a tag as it is written: nothing for 0
unfoldable pub encode_tag : ℕ → List ℕ
encode_tag tag = cond (eqb tag 0) [] (encode (integer (pos tag)))

-- the parts of a payload: a list of the key, the value and the tag
abbrev pub payload_parts : ℕ → Given → List ℕ → ℕ → List (List ℕ)
payload_parts key given s tag = (letter_l ∷ []) ∷ encode_string (key_text key) ∷ encode_given (class_of key) given s ∷ encode_tag tag ∷ (letter_e ∷ []) ∷ []

unfoldable pub payload_of : ℕ → Given → List ℕ → ℕ → List ℕ
payload_of key given s tag = flatten (payload_parts key given s tag)

-- a payload after its length
unfoldable pub frame_of : List ℕ → List ℕ
frame_of payload = hex_header (length payload) ++ payload

-- ---- the answer
-- a frame that is asked for, into a buffer of a length: the count, 43 or 44
unfoldable pub fitted : List ℕ → ℕ → Result ℕ WriteRefusal
fitted payload room =
    cond (leb (length payload) largest_payload)
    (cond (leb (length (frame_of payload)) room) (Ok (length (frame_of payload))) (Err WriteRefusal.Room))
    (Err WriteRefusal.Length)

-- the refusal of a payload's length in a buffer of a length: 43 or 44
unfoldable pub length_fault : ℕ → ℕ → Result (Unit {0}) WriteRefusal
length_fault size room = cond (leb size largest_payload) (cond (leb (header_length + size) room) (Ok tt) (Err WriteRefusal.Room)) (Err WriteRefusal.Length)

-- the first refusal of a message whatever its length: 40, 41 or 42
unfoldable pub message_fault : ℕ → Given → List ℕ → ℕ → Result (Unit {0}) WriteRefusal
message_fault key given s tag =
    cond (is_written key)
    (cond (value_fits (class_of key) given s) (cond (leb tag largest_tag) (Ok tt) (Err WriteRefusal.Tag)) (Err WriteRefusal.Value))
    (Err WriteRefusal.Key)

-- the answer to a message: 40 to 44 in document 01's order
unfoldable pub write_answer : ℕ → Given → List ℕ → ℕ → ℕ → Result ℕ WriteRefusal
write_answer key given s tag room = result_and (message_fault key given s tag) (fitted (payload_of key given s tag) room)

-- what a writer with any refusals did: its answer, also as code and count, and the whole buffer
pub record LeavesBy {E : Type 0} (code_of : E → ℕ) (answer : Result ℕ E) (payload before : List ℕ) (r : Result ℕ E) (after : List ℕ) : Type 0 where
  pub answered : r ≡ answer
  pub code : code_by code_of r ≡ code_by code_of answer
  pub count : written_count r ≡ written_count answer
  pub buffer : after ≡ buffer_after r (frame_of payload) before

-- what ours did, with document 01's codes
abbrev pub Leaves : Result ℕ WriteRefusal → List ℕ → List ℕ → Result ℕ WriteRefusal → List ℕ → Type 0
Leaves answer payload before r after = LeavesBy write_refusal_code answer payload before r after
