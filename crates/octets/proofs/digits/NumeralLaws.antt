-- Laws of digits that are read, for each way through their readers.
-- Assumes nothing.
use Prim.Native.Nat.{ℕ, ◌+◌, ◌-◌, ◌*◌, ◌^◌, ◌≤◌, ◌<◌, min}
use mathlib.Core.Path.{◌≡◌, refl, ap, ◌∙◌}
use mathlib.Core.Bool.{Bool, true, false, cond}
use mathlib.Core.List.{List, [], ◌∷◌}
use native.Mathlib.Omega.{arith}
use native.Mathlib.Numerals.{add-one}
use native.Mathlib.Decide.{dec_lt}
use borrow.Author.Tests.{le-leb, lt-leb, eq-eqb, ne_eqb}
use lib.ListN.{length, drop, get_or-eq_default, drop_of_length-le}
use lib.Seq.{drop-cons}
use Rattle.octets.specs.declared.numerals.Decimal.{Decimal}
use Rattle.octets.specs.Bytes.{byte_at}
use Rattle.octets.specs.Numerals.{is_digit, digits, digits_at, numeral_at, capped}

-- a byte that is not 0 stands inside the bytes
pub inside : (s : List ℕ) (at : ℕ) → 0 < byte_at s at → at < length s
inside s at h = elim (dec_lt at (length s)) [ yes p ↦ p | no q ↦ absurd (omega (arith, get_or-eq_default s 0 {n = at} (omega arith))) ]

-- at a byte that is no digit the digits end
pub digits_stop : (n at : ℕ) (s : List ℕ) → is_digit (byte_at s at) ≡ false → digits n at (drop at s) ≡ record { end = at; number = n }
unfolding digits
digits_stop n at s h = elim (dec_lt at (length s)) [ yes p ↦ rw (drop-cons s at 0 p, h) refl | no q ↦ rw (drop_of_length-le s {i = at} (omega arith)) refl ]

pub digits_below : (n at : ℕ) (s : List ℕ) → byte_at s at < 48 → digits n at (drop at s) ≡ record { end = at; number = n }
digits_below n at s h = digits_stop n at s (rw (lt-leb 48 (byte_at s at) h) refl)

pub digits_above : (n at : ℕ) (s : List ℕ) → 57 < byte_at s at → digits n at (drop at s) ≡ record { end = at; number = n }
digits_above n at s h = digits_stop n at s (rw (le-leb 48 (byte_at s at) (omega arith), lt-leb (byte_at s at) 57 h) refl)

-- at a digit they go on
pub digits_more : (n at : ℕ) (s : List ℕ) → 48 ≤ byte_at s at → byte_at s at ≤ 57 → digits n at (drop at s) ≡ digits (n * 10 + (byte_at s at - 48)) (at + 1) (drop (at + 1) s)
unfolding digits
digits_more n at s l h = rw (drop-cons s at 0 (inside s at (omega arith)), le-leb 48 (byte_at s at) l, le-leb (byte_at s at) 57 h, add-one at) refl

-- to cap the number before the last digits is to cap it after them
pub capped_early : (m n at : ℕ) (l : List ℕ) → min m (2 ^ 64 - 1) ≡ min n (2 ^ 64 - 1) → capped (digits m at l) ≡ capped (digits n at l)
unfolding digits
capped_early m n at [] e = ap {B = Decimal} (λ (k : ℕ). record { end = at; number = k }) e
capped_early m n at (b ∷ bs) e =
    either (is_digit b) (capped_early (m * 10 + (b - 48)) (n * 10 + (b - 48)) (at + 1) bs (omega arith))
  where
    either : (t : Bool) → capped (digits (m * 10 + (b - 48)) (at + 1) bs) ≡ capped (digits (n * 10 + (b - 48)) (at + 1) bs) → capped (cond t (digits (m * 10 + (b - 48)) (at + 1) bs) (record { end = at; number = m })) ≡ capped (cond t (digits (n * 10 + (b - 48)) (at + 1) bs) (record { end = at; number = n }))
    either true h = h
    either false h = ap {B = Decimal} (λ (k : ℕ). record { end = at; number = k }) e

-- a number that fits is as it was
pub capped_fits : (n at : ℕ) → n < 2 ^ 64 → record { end = at; number = n } ≡ capped (record { end = at; number = n })
capped_fits n at h = ap {B = Decimal} (λ (k : ℕ). record { end = at; number = k }) (omega arith)

pub numeral_zero : (s : List ℕ) (at : ℕ) → byte_at s at ≡ 48 → numeral_at s at ≡ record { end = at + 1; number = 0 }
unfolding numeral_at
numeral_zero s at h = rw (eq-eqb (byte_at s at) 48 h) refl

pub numeral_digits : (s : List ℕ) (at : ℕ) → (byte_at s at ≡ 48 → ⊥) → numeral_at s at ≡ digits_at s at
unfolding numeral_at
numeral_digits s at h = rw (ne_eqb (byte_at s at) 48 h) refl

-- ---- the numeral as a reader has it, with its number capped
module _ (s : List ℕ) (at : ℕ) (n : Decimal) (is : n ≡ capped (numeral_at s at)) where
  pub same_end : n.end ≡ (numeral_at s at).end
  same_end = ap (λ (d : Decimal). d.end) is

  pub some_end : (n.end ≡ at → ⊥) → (numeral_at s at).end ≡ at → ⊥
  some_end some e = some (same_end ∙ e)

  pub same_number : n.number ≡ min (numeral_at s at).number (2 ^ 64 - 1)
  same_number = ap (λ (d : Decimal). d.number) is
