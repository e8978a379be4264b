-- `decimal` and `capped` are to be believed; reading is pinned by bencode's `ReadsInteger`, `ReadsString` and `AcceptsExactly`.
-- Decimal numerals (document 01, 'The frame': no leading zero).
-- Assumes nothing.
use Rattle.std.specs.Prelude.{ℕ, zero, suc, ◌+◌, ◌-◌, ◌*◌, ◌/◌, ◌%◌, ◌^◌, min, Bool, cond, ◌&&◌, List, [], ◌∷◌, drop, leb, ltb, eqb}
use Rattle.octets.specs.declared.numerals.Decimal.{Decimal}
use Rattle.octets.specs.Bytes.{digit0, digit9, byte_at}

-- is a byte one of 0 to 9
abbrev pub is_digit : ℕ → Bool
is_digit b = leb digit0 b && leb b digit9

-- the digits that a list opens with, from an offset on and after the number n: the offset after them, and the number
unfoldable pub digits : ℕ → ℕ → List ℕ → Decimal
digits n at [] = record { end = at; number = n }
digits n at (b ∷ bs) =
    let more = digits (n * 10 + (b - digit0)) (at + 1) bs in
    cond (is_digit b) more (record { end = at; number = n })

-- the digits of bytes from an offset on
abbrev pub digits_at : List ℕ → ℕ → Decimal
digits_at s at = digits 0 at (drop at s)

-- the numeral at an offset: 0, or digits with no leading 0
unfoldable pub numeral_at : List ℕ → ℕ → Decimal
numeral_at s at = cond (eqb (byte_at s at) digit0) (record { end = at + 1; number = 0 }) (digits_at s at)

-- a numeral with its number at most the largest u64: no longer string fits a machine, and no larger integer is in range
abbrev pub capped : Decimal → Decimal
capped n = record { end = n.end; number = min n.number (2 ^ 64 - 1) }

-- at most k decimal digits of n before a rest, the last digit first
unfoldable pub decimal_before : ℕ → ℕ → List ℕ → List ℕ
decimal_before zero n rest = rest
decimal_before (suc k) n rest =
    let more = decimal_before k (n / 10) ((digit0 + n % 10) ∷ rest) in
    cond (ltb n 10) ((digit0 + n) ∷ rest) more

-- a number written in decimal, with no leading zero
unfoldable pub decimal : ℕ → List ℕ
decimal n = decimal_before (suc n) n []
