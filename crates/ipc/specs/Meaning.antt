-- To be believed. What a bencoded value means: the answer to it, as document 01 has it, with no word of how it is read.
-- Assumes nothing.
use Rattle.std.specs.Prelude.{ℕ, ◌+◌, ◌-◌, Bool, true, false, cond, ◌&&◌, List, ℤ, length, Option, Some, None}
use Rattle.bencode.specs.Value.{Value, integer, string, list, dictionary, Values, no_value, value, encode_string, encode, Found, found, missing, lookup, under, found_integer}
use Rattle.octets.specs.Ascii.{ascii}
use Rattle.bencode.specs.Integers.{within}
use Rattle.ipc.specs.declared.keys.Class.{Class}
use Rattle.ipc.specs.declared.reading.Value.{Value as MessageValue}
use Rattle.ipc.specs.Answer.{Answer, refused, accepted, accepted_handshake, off_format, tag_number, content_of}
use Rattle.ipc.specs.Header.{header_length}
use Rattle.ipc.specs.Ids.{largest_id, tag_of}
use Rattle.ipc.specs.Keys.{key_number, class_of}
use Rattle.ipc.specs.Format.{largest_port}
use Rattle.ipc.specs.Versions.{range_of}
use Rattle.ipc.specs.declared.ids.Tag.{Tag}
use Rattle.ipc.specs.declared.versions.Versions.{Versions}

-- a torrent ID
abbrev pub is_id_value : Value → Bool
is_id_value v = found_integer false (within 1 largest_id) (found v)

abbrev pub is_text : Value → Bool
is_text (integer z) = false
is_text (string text) = true
is_text (list vs) = false
is_text (dictionary es) = false

-- a torrent: a dictionary whose `id` is a torrent ID
abbrev pub is_torrent : Value → Bool
is_torrent v = found_integer false (within 1 largest_id) (under (ascii "id") (found v))

-- does every value of a list pass a test
abbrev pub every : (Value → Bool) → Values → Bool
every ok no_value = true
every ok (value v vs) = ok v && every ok vs

-- a value as the part of the frame that it is, where it stands at an offset of the payload
abbrev pub whole_at : ℕ → Value → MessageValue
whole_at at x = MessageValue.Part (header_length + at) (length (encode x))

-- an integer that passes a test
abbrev pub as_integer : (ℤ → Bool) → Value → Option MessageValue
as_integer ok v = found_integer None (λ z. cond (ok z) (Some (MessageValue.Integer z)) None) (found v)

-- a string's text, which is the end of its encoding
abbrev pub as_text : ℕ → Value → Option MessageValue
as_text at (integer z) = None
as_text at (string text) = Some (MessageValue.Text (header_length + ((at + length (encode_string text)) - length text)) (length text))
as_text at (list vs) = None
as_text at (dictionary es) = None

-- a list of values that pass a test
abbrev pub as_list : (Value → Bool) → ℕ → Value → Option MessageValue
as_list ok at (integer z) = None
as_list ok at (string text) = None
as_list ok at (list vs) = cond (every ok vs) (Some (whole_at at (list vs))) None
as_list ok at (dictionary es) = None

-- what a message holds of a value at an offset, in a format
abbrev pub judged : Class → ℕ → Value → Option MessageValue
judged Class.Unlisted at x = Some (whole_at at x)
judged Class.Boolean at x = as_integer (within 0 1) x
judged Class.Ignored at x = Some MessageValue.Nothing
judged Class.Text at x = as_text at x
judged Class.Integer at x = as_integer (λ z. true) x
judged Class.TextList at x = as_list is_text at x
judged Class.TorrentList at x = as_list is_torrent at x
judged Class.Port at x = as_integer (within 0 largest_port) x
judged Class.IdList at x = as_list is_id_value at x

abbrev pub answered : ℕ → ℕ → Option Tag → Option MessageValue → Answer
answered used k tag (Some v) = accepted used k (tag_number tag) (content_of v)
answered used k tag None = off_format k (tag_number tag)

-- the answer to a message of a key, a value and a tag
abbrev pub message_of : ℕ → List ℕ → Value → Option Tag → Answer
message_of used key x tag = answered used (key_number key) tag (judged (class_of (key_number key)) (1 + length (encode_string key)) x)

-- the answer to a message with a tag, or with a third value that is none
abbrev pub tagged_of : ℕ → List ℕ → Value → Option Tag → Answer
tagged_of used key x (Some t) = message_of used key x (Some t)
tagged_of used key x None = refused 20 0

-- a third value that is an integer must be the last
abbrev pub last_of : ℕ → List ℕ → Value → ℤ → Values → Answer
last_of used key x z no_value = tagged_of used key x (tag_of z)
last_of used key x z (value y vs) = refused 20 0

abbrev pub third_of : ℕ → List ℕ → Value → Values → Answer
third_of used key x no_value = message_of used key x None
third_of used key x (value (integer z) vs) = last_of used key x z vs
third_of used key x (value (string text) vs) = refused 20 0
third_of used key x (value (list us) vs) = refused 20 0
third_of used key x (value (dictionary es) vs) = refused 20 0

abbrev pub second_of : ℕ → List ℕ → Values → Answer
second_of used key no_value = refused 20 0
second_of used key (value x vs) = third_of used key x vs

-- the answer to a list: a key, a value and, if there is one, a tag
abbrev pub list_of : ℕ → Values → Answer
list_of used no_value = refused 20 0
list_of used (value (integer z) vs) = refused 20 0
list_of used (value (string key) vs) = second_of used key vs
list_of used (value (list us) vs) = refused 20 0
list_of used (value (dictionary es) vs) = refused 20 0

-- the versions that `version` names: an integer, or a dictionary with integers `min` and `max`
abbrev pub versions_of : Found → Option Versions
versions_of (found (integer z)) = range_of z z
versions_of (found (string text)) = None
versions_of (found (list vs)) = None
versions_of (found (dictionary es)) =
    found_integer None (λ low. found_integer None (range_of low) (lookup (ascii "max") es)) (lookup (ascii "min") es)
versions_of missing = None

abbrev pub versions_answer : ℕ → Option Versions → Answer
versions_answer used (Some v) = accepted_handshake used v.min v.max
versions_answer used None = refused 21 0

-- the answer to a payload that is the encoding of a value
abbrev pub meaning : ℕ → Value → Answer
meaning used (integer z) = refused 20 0
meaning used (string text) = refused 20 0
meaning used (list vs) = list_of used vs
meaning used (dictionary es) = versions_answer used (versions_of (lookup (ascii "version") es))
