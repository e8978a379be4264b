-- Which integers are read is pinned by `ReadsInteger` and `AcceptsExactly`; the range, `within`, `after_positive`, and code and
-- offset of a fault are to be believed; `BoundedDigits` is pinned by the promise of `plain_positive`, and nothing public cites it.
-- Integers: `i`, an optional `-`, decimal digits, `e`; no leading zero, no `-0` (document 01, 'The frame').
-- Assumes nothing.
use Rattle.std.specs.Prelude.{ℕ, ◌+◌, ◌-◌, ◌^◌, ◌≤◌, ◌<◌, ◌≡◌, Bool, true, false, cond, ◌&&◌, List, ℤ, pos, neg_ℤ, ltb, eqb, Ok, Err, Result, Option, Some, None}
use Rattle.std.specs.Int.Signed.{mag, le_z}
use Rattle.octets.specs.declared.numerals.Decimal.{Decimal}
use Rattle.bencode.specs.declared.integers.Number.{Number}
use Rattle.octets.specs.Bytes.{digit0, byte_at}
use Rattle.bencode.specs.Letters.{letter_e, letter_i, minus}
use Rattle.bencode.specs.Fault.{fault, Walk}
use Rattle.octets.specs.Numerals.{numeral_at}
use Rattle.bencode.specs.declared.fault.Fault.{Fault}
use Rattle.bencode.specs.declared.fault.Cause.{Cause}

-- an integer with a sign
abbrev pub signed : Bool → ℕ → ℤ
signed true n = neg_ℤ (pos n)
signed false n = pos n

-- the range of 64 bits, from -2 ^ 63 to 2 ^ 63 - 1: `mag` is n of both n and -(n + 1)
abbrev pub range_bound : ℕ
range_bound = 2 ^ 63

abbrev pub InRange : ℤ → Type 0
InRange z = mag z < range_bound

-- is an integer from one number to another
abbrev pub within : ℕ → ℕ → ℤ → Bool
within low high z = le_z (pos low) z && le_z z (pos high)

-- an integer that ends at an offset
abbrev pub number_of : ℤ → ℕ → Number
number_of z to = record { value = z; end = to }

-- the integer z whose `i` is at an offset, where it is in the range; else 6 at the `i`
abbrev pub in_range : ℕ → ℤ → ℕ → Result Number Fault
in_range at z end = cond (ltb (mag z) range_bound) (Ok (number_of z end)) (Err (fault Cause.Range at))

-- the integer whose digits, from an offset on, are the numeral n: its form is judged before its range
abbrev pub integer_of : List ℕ → ℕ → ℕ → Bool → Decimal → Result Number Fault
integer_of s at from negative n =
    cond (eqb n.end from) (Err (fault Cause.Syntax from))
    (cond (eqb (byte_at s n.end) letter_e)
    (in_range at (signed negative n.number) (n.end + 1))
    (Err (fault Cause.Syntax n.end)))

unfoldable pub integer_from : List ℕ → ℕ → ℕ → Bool → Result Number Fault
integer_from s at from negative = integer_of s at from negative (numeral_at s from)

-- the integer at an offset: its value and the offset after it, or the fault
unfoldable pub integer_at : List ℕ → ℕ → Result Number Fault
integer_at s at =
    cond (eqb (byte_at s at) letter_i)
    (cond (eqb (byte_at s (at + 1)) minus)
    (cond (eqb (byte_at s (at + 2)) digit0)
    (Err (fault Cause.Syntax (at + 2)))
    (integer_from s at (at + 2) true))
    (integer_from s at (at + 1) false))
    (Err (fault Cause.Syntax at))

-- the offset after an integer
abbrev pub number_end : Result Number Fault → Walk
number_end (Ok n) = Ok n.end
number_end (Err f) = Err f

-- what is told of d, the digits from an offset on: they end at another, their number is below `above` and below 10 ^ 10, and where
-- there are some, not below the first
abbrev pub BoundedDigits : List ℕ → ℕ → ℕ → ℕ → Decimal → Type 0
BoundedDigits s from end above d = (end ≡ d.end) × (d.number < above) × (d.number < 10 ^ 10) × (from < end → byte_at s from - digit0 ≤ d.number)

-- the offset after an integer from 1 to another, and none for any other and for a fault
abbrev pub after_positive : ℕ → Result Number Fault → Option ℕ
after_positive high (Ok n) = cond (within 1 high n.value) (Some n.end) None
after_positive high (Err f) = None
