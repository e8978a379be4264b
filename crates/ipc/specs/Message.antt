-- Pinned by `AnswersMeaning`. Messages: a list of a key, a value and, if it has one, a tag (document 01, 'The message').
-- Assumes nothing.
use Rattle.std.specs.Prelude.{ℕ, ◌+◌, cond, List, eqb, length, Option, Some, None, Result, Ok, Err}
use Rattle.bencode.specs.declared.integers.Number.{Number}
use Rattle.bencode.specs.declared.strings.Text.{Text}
use Rattle.octets.specs.Bytes.{byte_at, slice}
use Rattle.bencode.specs.Letters.{letter_e}
use Rattle.bencode.specs.Integers.{integer_at}
use Rattle.bencode.specs.Strings.{string_at}
use Rattle.bencode.specs.Item.{item_at}
use Rattle.ipc.specs.declared.reading.Frame.{Frame}
use Rattle.ipc.specs.declared.reading.Refusal.{Refusal}
use Rattle.ipc.specs.Header.{header_length}
use Rattle.ipc.specs.Ids.{tag_of}
use Rattle.ipc.specs.Keys.{key_number, class_of}
use Rattle.ipc.specs.Format.{formatted}
use Rattle.ipc.specs.declared.ids.Tag.{Tag}
use Rattle.ipc.specs.declared.reading.Value.{Value}
use Rattle.bencode.specs.declared.fault.Fault.{Fault}

-- a tag, after which the list ends
abbrev pub last_tag : List ℕ → ℕ → Option Tag → Result (Option Tag) Refusal
last_tag p end None = Err Refusal.NoMessage
last_tag p end (Some t) = cond (eqb (byte_at p end) letter_e) (Ok (Some t)) (Err Refusal.NoMessage)

abbrev pub tagged_by : List ℕ → Result Number Fault → Result (Option Tag) Refusal
tagged_by p (Ok n) = last_tag p n.end (tag_of n.value)
tagged_by p (Err f) = Err Refusal.NoMessage

-- the tag that stands after a message's value, or none; the list ends after it
unfoldable pub tail_at : List ℕ → ℕ → Result (Option Tag) Refusal
tail_at p at = cond (eqb (byte_at p at) letter_e) (Ok None) (tagged_by p (integer_at p at))

-- a message whose value is in its format, or off it
abbrev pub valued : List ℕ → ℕ → Option Tag → Option Value → Result Frame Refusal
valued p k t (Some v) = Ok (Frame.Message (record { key = k; tag = t; value = v }) (header_length + length p))
valued p k t None = Err (Refusal.OffFormat k t)

-- what is read of the key with a number, the value from an offset up to another and what follows
abbrev pub from_tag : List ℕ → ℕ → ℕ → ℕ → Result (Option Tag) Refusal → Result Frame Refusal
from_tag p k at end (Ok tag) = valued p k tag (formatted (class_of k) p at end)
from_tag p k at end (Err r) = Err r

-- what is read after a key, whose value is at an offset
abbrev pub from_value : List ℕ → List ℕ → ℕ → Option ℕ → Result Frame Refusal
from_value p key at (Some end) = from_tag p (key_number key) at end (tail_at p end)
from_value p key at None = Err Refusal.NoMessage

abbrev pub from_key : List ℕ → Result Text Fault → Result Frame Refusal
from_key p (Ok t) = from_value p (slice p t.start t.end) t.end (item_at p t.end)
from_key p (Err f) = Err Refusal.NoMessage

-- what is read of a payload that is a list
unfoldable pub message_reading : List ℕ → Result Frame Refusal
message_reading p = from_key p (string_at p 1)
