-- What is accepted is pinned by `AcceptsExactly`; codes and offsets are to be believed. Values that hold no other: strings and
-- integers.
-- Assumes nothing.
use Rattle.std.specs.Prelude.{ℕ, cond, List, eqb}
use Rattle.octets.specs.Bytes.{byte_at}
use Rattle.bencode.specs.Letters.{letter_i}
use Rattle.bencode.specs.Strings.{string_at, text_end}
use Rattle.bencode.specs.Integers.{integer_at, number_end}
use Rattle.bencode.specs.Fault.{Walk}

-- the offset after the string or the integer at an offset
unfoldable pub scalar_at : List ℕ → ℕ → Walk
scalar_at s at = cond (eqb (byte_at s at) letter_i) (number_end (integer_at s at)) (text_end (string_at s at))
