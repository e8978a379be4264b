-- Laws of strings, one for each way through their reader. n is the numeral as the reader has it, with its number capped.
-- Assumes nothing.
use Prim.Native.Nat.{ℕ, ◌+◌, ◌-◌, ◌^◌, ◌≤◌, ◌<◌}
use mathlib.Core.Path.{◌≡◌, refl, sym, ◌∙◌, ap}
use mathlib.Core.List.{List}
use native.Mathlib.Omega.{arith}
use borrow.Author.Tests.{le-leb, lt-leb, eq-eqb, ne_eqb}
use lib.ListN.{length}
use Rattle.octets.specs.declared.numerals.Decimal.{Decimal}
use Rattle.octets.specs.Bytes.{byte_at}
use Rattle.octets.specs.Numerals.{numeral_at, capped}
use Rattle.bencode.specs.Fault.{fault}
use Rattle.bencode.specs.Strings.{string_at, text_of}
use Rattle.octets.proofs.digits.NumeralLaws.{same_end, some_end, same_number}
use Rattle.std.specs.Prelude.{Ok, Err, Result}
use Rattle.bencode.specs.declared.strings.Text.{Text}
use Rattle.bencode.specs.declared.fault.Fault.{Fault}
use Rattle.bencode.specs.declared.fault.Cause.{Cause}

-- texts that are read the same start and end alike
pub same_text : (start end from to : ℕ) → ◌≡◌ {A = Result Text Fault} (Ok (text_of start end)) (Ok (text_of from to)) → (start ≡ from) × (end ≡ to)
same_text start end from to e = (ap first e, ap last e)
  where
    first : Result Text Fault → ℕ
    first (Ok t) = t.start
    first (Err f) = 0

    last : Result Text Fault → ℕ
    last (Ok t) = t.end
    last (Err f) = 0

module _ (s : List ℕ) (at : ℕ) (n : Decimal) (is : n ≡ capped (numeral_at s at)) where
  pub string_none : n.end ≡ at → Err (fault Cause.Syntax at) ≡ string_at s at
  unfolding string_at
  string_none h = rw (eq-eqb (numeral_at s at).end at (sym (same_end s at n is) ∙ h)) refl

  module _ (some : n.end ≡ at → ⊥) where
    pub string_no_colon : (byte_at s n.end ≡ 58 → ⊥) → Err (fault Cause.Syntax n.end) ≡ string_at s at
    unfolding string_at
    string_no_colon h = rw (same_end s at n is, ne_eqb (numeral_at s at).end at (some_end s at n is some), ne_eqb (byte_at s (numeral_at s at).end) 58 (rw (same_end s at n is) at h)) refl

    module _ (colon : byte_at s n.end ≡ 58) (room : length s < 2 ^ 64 - 1) where
      pub string_short : length s - (n.end + 1) < n.number → Err (fault Cause.Syntax (length s)) ≡ string_at s at
      unfolding string_at
      string_short h =
          let m = numeral_at s at in
          rw (ne_eqb m.end at (some_end s at n is some), eq-eqb (byte_at s m.end) 58 (rw (same_end s at n is) at colon), lt-leb m.number (length s - (m.end + 1)) (omega (arith, same_end s at n is, same_number s at n is))) refl

      pub string_whole : n.number ≤ length s - (n.end + 1) → Ok (text_of (n.end + 1) (n.end + 1 + n.number)) ≡ string_at s at
      unfolding string_at
      string_whole h =
          let m = numeral_at s at in
          let number : n.number ≡ m.number = omega (arith, same_end s at n is, same_number s at n is) in
          rw (same_end s at n is, number, ne_eqb m.end at (some_end s at n is some), eq-eqb (byte_at s m.end) 58 (rw (same_end s at n is) at colon), le-leb m.number (length s - (m.end + 1)) (omega (arith, same_end s at n is, same_number s at n is))) refl
