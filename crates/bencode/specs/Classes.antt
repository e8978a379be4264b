-- Pinned by the promises of the walk's functions; nothing public cites it. The classes of bytes (document 02, request 12).
-- Assumes nothing.
use Rattle.std.specs.Prelude.{ℕ, ◌+◌, ◌≤◌, ◌<◌, ◌≡◌, Bool, cond, ◌&&◌, ◌||◌, List, [], ◌∷◌, eqb}
use Rattle.octets.specs.Bytes.{digit0, byte_at}
use Rattle.octets.specs.Numerals.{is_digit}
use Rattle.bencode.specs.Letters.{letter_d, letter_e, letter_i, letter_l, colon, minus}

-- is a byte one of those that bencode gives a meaning of its own
abbrev pub is_sign : ℕ → Bool
is_sign b = eqb b minus || (eqb b colon || (eqb b letter_d || (eqb b letter_e || (eqb b letter_i || eqb b letter_l))))

-- the class of any other byte: `.`
abbrev pub other_class : ℕ
other_class = 46

-- the class of a byte: `0` for the digits, the byte itself for each of `-:deil`
abbrev pub class_of : ℕ → ℕ
class_of b = cond (is_digit b) digit0 (cond (is_sign b) b other_class)

-- do classes stand in the order of their bytes, from a byte up to 255
unfoldable pub are_classes_from : ℕ → List ℕ → Bool
are_classes_from b [] = eqb b 256
are_classes_from b (c ∷ cs) = eqb c (class_of b) && are_classes_from (b + 1) cs

-- is a list the table of the classes of all bytes
unfoldable pub is_table : List ℕ → Bool
is_table t = are_classes_from 0 t

-- from an offset up to another there are digits, at most so many; and where there are fewer, what follows them is none
abbrev pub DigitsTo : List ℕ → ℕ → ℕ → ℕ → Type 0
DigitsTo s from most end = (from ≤ end) × (end ≤ from + most) × ((k : ℕ) → from + k < end → class_of (byte_at s (from + k)) ≡ digit0) × (end < from + most → class_of (byte_at s end) ≡ digit0 → ⊥)
