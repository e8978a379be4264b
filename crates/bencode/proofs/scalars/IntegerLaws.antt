-- Laws of integers, one for each way through their readers. n is the numeral as the reader has it, with its number capped.
-- Assumes nothing.
use Prim.Native.Nat.{ℕ, zero, suc, ◌+◌, ◌-◌, ◌^◌, ◌≤◌, ◌<◌, min}
use mathlib.Core.Path.{◌≡◌, refl, sym, ap, ◌∙◌}
use mathlib.Core.Bool.{Bool, true, false}
use mathlib.Core.List.{List}
use native.Mathlib.Omega.{arith}
use native.Mathlib.Decide.{dec_lt}
use Prim.{Dec, yes, no}
use borrow.Author.Tests.{lt-ltb, le-ltb, eq-eqb, ne_eqb}
use lib.IntN.{pos, neg_ℤ}
use lib.Signed.{mag}
use mir.Syntax.{w64}
use mir.Val.{SFits}
use Rattle.octets.specs.declared.numerals.Decimal.{Decimal}
use Rattle.bencode.specs.Fault.{fault}
use Rattle.octets.specs.Bytes.{byte_at}
use Rattle.octets.specs.Numerals.{numeral_at, capped}
use Rattle.bencode.specs.Integers.{signed, in_range, integer_from, integer_at, number_of}
use Rattle.octets.proofs.digits.NumeralLaws.{same_end, some_end, same_number, numeral_digits, digits_below}
use Rattle.std.specs.Prelude.{Ok, Err}
use Rattle.bencode.specs.declared.fault.Cause.{Cause}

-- -n fits 64 bits where n is at most 2 ^ 63, and no other n
pub neg_fits : (n : ℕ) → n ≤ 2 ^ 63 → SFits w64 (neg_ℤ (pos n))
neg_fits zero h = record { sfits = omega arith }
neg_fits (suc k) h = record { sfits = omega arith }

neg_large : (n : ℕ) → 2 ^ 63 < n → 2 ^ 63 ≤ mag (neg_ℤ (pos n))
neg_large zero h = absurd (omega arith)
neg_large (suc k) h = omega arith

-- ---- the range
module _ (at n end : ℕ) where
  pub range_low : 2 ^ 63 < n → Err (fault Cause.Range at) ≡ in_range at (signed true n) end
  range_low h = rw (le-ltb (mag (neg_ℤ (pos n))) (2 ^ 63) (neg_large n h)) refl

  pub range_negative : n ≤ 2 ^ 63 → Ok (number_of (neg_ℤ (pos n)) end) ≡ in_range at (signed true n) end
  range_negative h = rw (lt-ltb (mag (neg_ℤ (pos n))) (2 ^ 63) (neg_fits n h).sfits) refl

  pub range_high : 2 ^ 63 - 1 < n → Err (fault Cause.Range at) ≡ in_range at (signed false n) end
  range_high h = rw (le-ltb n (2 ^ 63) (omega arith)) refl

  pub range_positive : n ≤ 2 ^ 63 - 1 → Ok (number_of (pos n) end) ≡ in_range at (signed false n) end
  range_positive h = rw (lt-ltb n (2 ^ 63) (omega arith)) refl

-- a number over the cap is out of range on either side of it
range_capped : (at m n end : ℕ) (negative : Bool) → n ≡ min m (2 ^ 64 - 1) → in_range at (signed negative n) end ≡ in_range at (signed negative m) end
range_capped at m n end negative e = go (dec_lt m (2 ^ 64)) negative
  where
    go : Dec (m < 2 ^ 64) → (t : Bool) → in_range at (signed t n) end ≡ in_range at (signed t m) end
    go (yes h) t = let i : n ≡ m = omega arith in rw i refl
    go (no h) true = sym (range_low at n end (omega arith)) ∙ range_low at m end (omega arith)
    go (no h) false = sym (range_high at n end (omega arith)) ∙ range_high at m end (omega arith)

-- ---- the digits
module _ (s : List ℕ) (at from : ℕ) (negative : Bool) (n : Decimal) (is : n ≡ capped (numeral_at s from)) where
  pub integer_none : n.end ≡ from → Err (fault Cause.Syntax from) ≡ integer_from s at from negative
  unfolding integer_from
  integer_none h = rw (eq-eqb (numeral_at s from).end from (sym (same_end s from n is) ∙ h)) refl

  module _ (some : n.end ≡ from → ⊥) where
    pub integer_no_end : (byte_at s n.end ≡ 101 → ⊥) → Err (fault Cause.Syntax n.end) ≡ integer_from s at from negative
    unfolding integer_from
    integer_no_end h = rw (same_end s from n is, ne_eqb (numeral_at s from).end from (some_end s from n is some), ne_eqb (byte_at s (numeral_at s from).end) 101 (rw (same_end s from n is) at h)) refl

    pub integer_whole : byte_at s n.end ≡ 101 → in_range at (signed negative n.number) (n.end + 1) ≡ integer_from s at from negative
    unfolding integer_from
    integer_whole end =
        let m = numeral_at s from in
        rw (same_end s from n is, ne_eqb m.end from (some_end s from n is some), eq-eqb (byte_at s m.end) 101 (rw (same_end s from n is) at end))
        (range_capped at m.number n.number (m.end + 1) negative (same_number s from n is))

module _ (s : List ℕ) (at : ℕ) where
  pub integer_other : (byte_at s at ≡ 105 → ⊥) → Err (fault Cause.Syntax at) ≡ integer_at s at
  unfolding integer_at
  integer_other h = rw (ne_eqb (byte_at s at) 105 h) refl

  module _ (i : byte_at s at ≡ 105) where
    pub integer_plus : (byte_at s (at + 1) ≡ 45 → ⊥) → integer_from s at (at + 1) false ≡ integer_at s at
    unfolding integer_at
    integer_plus h = rw (eq-eqb (byte_at s at) 105 i, ne_eqb (byte_at s (at + 1)) 45 h) refl

    module _ (minus : byte_at s (at + 1) ≡ 45) where
      pub integer_minus_zero : byte_at s (at + 2) ≡ 48 → Err (fault Cause.Syntax (at + 2)) ≡ integer_at s at
      unfolding integer_at
      integer_minus_zero h = rw (eq-eqb (byte_at s at) 105 i, eq-eqb (byte_at s (at + 1)) 45 minus, eq-eqb (byte_at s (at + 2)) 48 h) refl

      pub integer_minus : (byte_at s (at + 2) ≡ 48 → ⊥) → integer_from s at (at + 2) true ≡ integer_at s at
      unfolding integer_at
      integer_minus h = rw (eq-eqb (byte_at s at) 105 i, eq-eqb (byte_at s (at + 1)) 45 minus, ne_eqb (byte_at s (at + 2)) 48 h) refl

-- ---- an integer with no sign: a numeral after `i`, in the range
pub integer_natural : (s : List ℕ) (at : ℕ) (n : Decimal) → n ≡ capped (numeral_at s (at + 1)) → byte_at s at ≡ 105 → (n.end ≡ at + 1 → ⊥) → byte_at s n.end ≡ 101 → n.number ≤ 2 ^ 63 - 1 → integer_at s at ≡ Ok (number_of (pos n.number) (n.end + 1))
integer_natural s at n is i some e h =
    sym (integer_plus s at i no_minus)
    ∙ sym (integer_whole s at (at + 1) false n is some e)
    ∙ sym (range_positive at n.number (n.end + 1) h)
  where
    no_minus : byte_at s (at + 1) ≡ 45 → ⊥
    no_minus m = some (same_end s (at + 1) n is ∙ ap (λ (d : Decimal). d.end) (numeral_digits s (at + 1) (λ z. omega (arith, m, z)) ∙ digits_below 0 (at + 1) s (omega (arith, m))))
