-- Pinned by `ShowsValue` and `FindsField`, `if_integer` by ipc's `AnswersMeaning`; `integer_in` is to be believed. The value of
-- a key in a dictionary that has been walked, by its kind and with its place.
-- Assumes nothing.
use Rattle.std.specs.Prelude.{ℕ, ◌+◌, cond, List, eqb, ℤ, Result, Ok, Err, Option, Some, None}
use Rattle.bencode.specs.declared.field.Field.{Field}
use Rattle.bencode.specs.declared.integers.Number.{Number}
use Rattle.bencode.specs.declared.strings.Text.{Text}
use Rattle.octets.specs.Bytes.{byte_at}
use Rattle.bencode.specs.Letters.{letter_d, letter_i, letter_l}
use Rattle.bencode.specs.Strings.{string_at}
use Rattle.bencode.specs.Integers.{integer_at}
use Rattle.bencode.specs.Entry.{entry_at}
use Rattle.bencode.specs.declared.fault.Fault.{Fault}

abbrev pub number_field : Result Number Fault → Option Field
number_field (Ok n) = Some (Field.Integer n.value n.end)
number_field (Err f) = None

abbrev pub text_field : Result Text Fault → Option Field
text_field (Ok t) = Some (Field.Text t.start t.end)
text_field (Err f) = None

-- the value at an offset; none where no value starts
unfoldable pub field_at : List ℕ → ℕ → Option Field
field_at s at =
    cond (eqb (byte_at s at) letter_l) (Some (Field.List (at + 1)))
    (cond (eqb (byte_at s at) letter_d) (Some (Field.Dictionary (at + 1)))
    (cond (eqb (byte_at s at) letter_i) (number_field (integer_at s at)) (text_field (string_at s at))))

abbrev pub entry_field : List ℕ → Option ℕ → Option Field
entry_field s (Some at) = field_at s at
entry_field s None = None

-- the value of a key in the dictionary whose entries start at an offset; none where there is no such key
unfoldable pub field_of : List ℕ → List ℕ → ℕ → Option Field
field_of s key at = entry_field s (entry_at s key at)

-- the integer that a field is, and the offset after it
abbrev pub integer_in : Field → Option Number
integer_in (Field.Integer z end) = Some (record { value = z; end = end })
integer_in (Field.Text start end) = None
integer_in (Field.List at) = None
integer_in (Field.Dictionary at) = None

-- what is made of an integer and the offset after it; `other` for any other field and for none
abbrev pub if_integer : {A : Type 0} → A → (ℤ → ℕ → A) → Option Field → A
if_integer other make (Some (Field.Integer z end)) = make z end
if_integer other make (Some (Field.Text start end)) = other
if_integer other make (Some (Field.List at)) = other
if_integer other make (Some (Field.Dictionary at)) = other
if_integer other make None = other
