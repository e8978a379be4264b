-- Pinned by `AnswersMeaning`; the largest port is to be believed. The formats of values (document 01, 'The message'), as they
-- are checked in a payload.
-- Assumes nothing.
use Rattle.std.specs.Prelude.{ℕ, ◌+◌, ◌-◌, Bool, true, cond, List, eqb, ℤ, Option, Some, None, Result, Ok, Err}
use Rattle.bencode.specs.declared.integers.Number.{Number}
use Rattle.bencode.specs.declared.strings.Text.{Text}
use Rattle.octets.specs.Bytes.{byte_at}
use Rattle.bencode.specs.Letters.{letter_d, letter_l}
use Rattle.bencode.specs.Integers.{integer_at, within}
use Rattle.bencode.specs.Loop.{LoopStep, next, done, items_from}
use Rattle.bencode.specs.Strings.{string_at}
use Rattle.bencode.specs.Skip.{skip_rest}
use Rattle.bencode.specs.Field.{field_of, if_integer}
use Rattle.octets.specs.Ascii.{ascii}
use Rattle.ipc.specs.declared.keys.Class.{Class}
use Rattle.ipc.specs.declared.format.Items.{Items}
use Rattle.ipc.specs.declared.reading.Value.{Value}
use Rattle.ipc.specs.Header.{header_length}
use Rattle.ipc.specs.Ids.{torrent_id_of}
use Rattle.ipc.specs.declared.ids.TorrentId.{TorrentId}
use Rattle.bencode.specs.declared.fault.Fault.{Fault}

-- an integer that passes a test
abbrev pub integer_value : (ℤ → Bool) → Result Number Fault → Option Value
integer_value ok (Ok n) = cond (ok n.value) (Some (Value.Integer n.value)) None
integer_value ok (Err f) = None

-- the largest port
abbrev pub largest_port : ℕ
largest_port = 65535

-- the text of a string. Its offset counts from the frame's start, the payload's from after the header
abbrev pub text_value : Result Text Fault → Option Value
text_value (Ok t) = Some (Value.Text (header_length + t.start) (t.end - t.start))
text_value (Err f) = None

-- the bytes from an offset up to another, as a value
abbrev pub part_value : ℕ → ℕ → Value
part_value at end = Value.Part (header_length + at) (end - at)

-- the offset after a string
abbrev pub end_of_text : Result Text Fault → Option ℕ
end_of_text (Ok t) = Some t.end
end_of_text (Err f) = None

-- the offset after an item that has a torrent ID
abbrev pub end_by_id : ℕ → Option TorrentId → Option ℕ
end_by_id end (Some id) = Some end
end_by_id end None = None

abbrev pub end_of_id : Result Number Fault → Option ℕ
end_of_id (Ok n) = end_by_id n.end (torrent_id_of n.value)
end_of_id (Err f) = None

-- the offset after the torrent ID at an offset
unfoldable pub id_end : List ℕ → ℕ → Option ℕ
id_end p at = end_of_id (integer_at p at)

-- the offset after the torrent at an offset: a dictionary with a torrent ID for `id`
unfoldable pub torrent_end : List ℕ → ℕ → Option ℕ
torrent_end p at =
    cond (eqb (byte_at p at) letter_d)
    (if_integer None (λ z end. end_by_id (skip_rest p end) (torrent_id_of z)) (field_of p (ascii "id") (at + 1)))
    None

-- the offset after an item of a list
unfoldable pub item_end : Items → List ℕ → ℕ → Option ℕ
item_end Items.Texts p at = end_of_text (string_at p at)
item_end Items.Ids p at = id_end p at
item_end Items.Torrents p at = torrent_end p at

-- goes on after an item, or ends where it is off its format
abbrev pub past_item : Option ℕ → Unit {0} → LoopStep (Unit {0}) (Option ℕ)
past_item (Some end) x = next end x
past_item None x = done None

-- the offset after the items of a list, from an offset on
unfoldable pub items_end : Items → List ℕ → ℕ → Option ℕ
items_end items p at = items_from p (λ end x. Some end) (λ to x. past_item (item_end items p to) x) (λ to. None) at tt

-- a list, whose items are in their format
abbrev pub list_checked : ℕ → ℕ → Option ℕ → Option Value
list_checked at end (Some e) = Some (part_value at end)
list_checked at end None = None

-- the list from an offset up to another
unfoldable pub list_part : Items → List ℕ → ℕ → ℕ → Option Value
list_part items p at end = cond (eqb (byte_at p at) letter_l) (list_checked at end (items_end items p (at + 1))) None

-- what a message holds of the value from an offset up to another, in a format
unfoldable pub formatted : Class → List ℕ → ℕ → ℕ → Option Value
formatted Class.Unlisted p at end = Some (part_value at end)
formatted Class.Boolean p at end = integer_value (within 0 1) (integer_at p at)
formatted Class.Ignored p at end = Some Value.Nothing
formatted Class.Text p at end = text_value (string_at p at)
formatted Class.Integer p at end = integer_value (λ z. true) (integer_at p at)
formatted Class.TextList p at end = list_part Items.Texts p at end
formatted Class.TorrentList p at end = list_part Items.Torrents p at end
formatted Class.Port p at end = integer_value (within 0 largest_port) (integer_at p at)
formatted Class.IdList p at end = list_part Items.Ids p at end
