-- Laws of strings whose length has one or two digits.
-- Assumes nothing.
use Prim.Native.Nat.{ℕ, ◌+◌, ◌-◌, ◌*◌, ◌≤◌, ◌<◌}
use mathlib.Core.Path.{◌≡◌, refl, sym, ◌∙◌}
use mathlib.Core.List.{List}
use native.Mathlib.Omega.{arith}
use native.Mathlib.Decide.{dec_lt}
use borrow.Author.Tests.{le-leb, eq-eqb, ne_eqb}
use lib.ListN.{length, drop}
use Rattle.octets.specs.Bytes.{byte_at}
use Rattle.octets.specs.Numerals.{numeral_at, digits}
use Rattle.bencode.specs.Strings.{string_at, text_of}
use Rattle.octets.proofs.digits.NumeralLaws.{digits_above, digits_more, numeral_zero, numeral_digits}
use Rattle.std.specs.Prelude.{Ok}

-- the text of a string from start to end, after its length n and the colon
text_after : (s : List ℕ) (at colon n start end : ℕ) → numeral_at s at ≡ record { end = colon; number = n } → at < colon → byte_at s colon ≡ 58 → start ≡ colon + 1 → end ≡ start + n → end ≤ length s → string_at s at ≡ Ok (text_of start end)
unfolding string_at
text_after s at colon n start end is past h from to room =
    rw (is, ne_eqb colon at (λ e. omega arith), eq-eqb (byte_at s colon) 58 h, le-leb n (length s - (colon + 1)) (omega arith), to, from) refl

module _ (s : List ℕ) (at a : ℕ) (first : a ≡ byte_at s at) (low : 48 ≤ a) (high : a ≤ 57) where
  -- a first digit that is not 0 begins a numeral
  begun : (a ≡ 48 → ⊥) → numeral_at s at ≡ digits (a - 48) (at + 1) (drop (at + 1) s)
  begun some =
      let n : 0 * 10 + (byte_at s at - 48) ≡ a - 48 = omega arith in
      numeral_digits s at (λ e. some (first ∙ e)) ∙ (rw n at (digits_more 0 at s (omega arith) (omega arith)))

  -- ---- one digit
  one_digit : 58 ≡ byte_at s (at + 1) → numeral_at s at ≡ record { end = at + 1; number = a - 48 }
  one_digit colon = elim (dec_lt 48 a) [ yes p ↦ begun (λ e. omega arith) ∙ digits_above (a - 48) (at + 1) s (omega arith) | no q ↦ zero (omega arith) ]
    where
      zero : a ≡ 48 → numeral_at s at ≡ record { end = at + 1; number = a - 48 }
      zero e = rw e (numeral_zero s at (omega arith))

  pub one_digit_text : 58 ≡ byte_at s (at + 1) → (start end : ℕ) → (start ≡ at + 2) × (end ≡ at + 2 + (a - 48)) × (end ≤ length s) → string_at s at ≡ Ok (text_of start end)
  one_digit_text colon start end (from, to, room) = text_after s at (at + 1) (a - 48) start end (one_digit colon) (omega arith) (sym colon) (omega arith) (omega arith) room

  -- ---- two digits
  module _ (some : a ≡ 48 → ⊥) (b : ℕ) (second : b ≡ byte_at s (at + 1)) (low' : 48 ≤ b) (high' : b ≤ 57) (colon : 58 ≡ byte_at s (at + 2)) where
    two_digits : numeral_at s at ≡ record { end = at + 2; number = (a - 48) * 10 + (b - 48) }
    two_digits =
        let m : (a - 48) * 10 + (byte_at s (at + 1) - 48) ≡ (a - 48) * 10 + (b - 48) = omega arith in
        let past : at + 1 + 1 ≡ at + 2 = omega arith in
        begun some ∙ (rw (m, past) at (digits_more (a - 48) (at + 1) s (omega arith) (omega arith))) ∙ digits_above ((a - 48) * 10 + (b - 48)) (at + 2) s (omega arith)

    pub two_digits_text : (start end : ℕ) → (start ≡ at + 3) × (end ≡ at + 3 + ((a - 48) * 10 + (b - 48))) × (end ≤ length s) → string_at s at ≡ Ok (text_of start end)
    two_digits_text start end (from, to, room) = text_after s at (at + 2) ((a - 48) * 10 + (b - 48)) start end two_digits (omega arith) (sym colon) (omega arith) (omega arith) room
