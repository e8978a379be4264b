-- Where a part of a payload ends: after its start, and no further than the payload.
-- Assumes nothing.
use Prim.Native.Nat.{ℕ, ◌+◌, ◌-◌, ◌*◌, ◌^◌, ◌≤◌, ◌<◌}
use mathlib.Core.Path.{◌≡◌, refl, ap, sym, subst, ◌∙◌}
use mathlib.Core.Bool.{Bool, true, false, cond}
use mathlib.Core.List.{List, [], ◌∷◌}
use native.Mathlib.Omega.{arith}
use Rattle.std.specs.Prelude.{Some, None}
use Rattle.std.proofs.lemmas.Option.{same_Some, none-some}
use native.Mathlib.Decide.{dec_lt}
use borrow.Author.Tests.{leb-true, ltb-true, eqb-true, eqb-false, eq-eqb}
use lib.Dec.{eqb, leb, ltb}
use lib.IntN.{ℤ}
use lib.Signed.{mag}
use lib.ListN.{length, drop}
use mir.Syntax.{w64}
use mir.Val.{SFits}
use Rattle.octets.specs.declared.numerals.Decimal.{Decimal}
use Rattle.bencode.specs.declared.strings.Text.{Text}
use Rattle.bencode.specs.declared.integers.Number.{Number}
use Rattle.bencode.specs.declared.fault.Fault.{Fault}
use Rattle.octets.specs.Bytes.{byte_at}
use Rattle.octets.specs.Numerals.{is_digit, digits, digits_at, numeral_at}
use Rattle.bencode.specs.Fault.{fault, after_of, Walk}
use Rattle.bencode.specs.Strings.{string_at, text_end, text_of}
use Rattle.bencode.specs.Integers.{signed, integer_from, integer_at, number_end, number_of}
use Rattle.bencode.specs.Scalar.{scalar_at}
use Rattle.octets.proofs.digits.NumeralLaws.{inside, digits_below, digits_above, numeral_digits}
use Rattle.bencode.specs.Loop.{Past}
use Rattle.std.specs.Prelude.{Ok, Err, Result}
use Rattle.bencode.proofs.scalars.StringLaws.{same_text}
use Rattle.bencode.specs.declared.fault.Cause.{Cause}

-- a string's text, as the definition has it
pub record Whole (s : List ℕ) (at start end : ℕ) : Type 0 where
  pub low : 48 ≤ byte_at s at
  pub high : byte_at s at ≤ 57
  pub starts : at < start
  pub ordered : start ≤ end
  pub within : end ≤ length s
  pub some : (numeral_at s at).end ≡ at → ⊥
  pub colon : byte_at s (numeral_at s at).end ≡ 58
  pub numeral_end : (numeral_at s at).end + 1 ≡ start
  pub number : start + (numeral_at s at).number ≡ end

digits_forward : (n at : ℕ) (l : List ℕ) → at ≤ (digits n at l).end
unfolding digits
digits_forward n at [] = omega arith
digits_forward n at (b ∷ bs) = go (is_digit b) (digits_forward (n * 10 + (b - 48)) (at + 1) bs)
  where
    go : (t : Bool) → at + 1 ≤ (digits (n * 10 + (b - 48)) (at + 1) bs).end → at ≤ (cond t (digits (n * 10 + (b - 48)) (at + 1) bs) (record { end = at; number = n })).end
    go true h = omega arith
    go false h = omega arith

pub numeral_forward : (s : List ℕ) (at : ℕ) → at ≤ (numeral_at s at).end
unfolding numeral_at
numeral_forward s at = go (eqb (byte_at s at) 48)
  where
    go : (t : Bool) → at ≤ (cond t (record { end = at + 1; number = 0 }) (digits_at s at)).end
    go true = omega arith
    go false = digits_forward 0 at (drop at s)

-- a numeral that is there begins with a digit
numeral_none : (s : List ℕ) (at : ℕ) → (byte_at s at ≡ 48 → ⊥) → digits_at s at ≡ record { end = at; number = 0 } → (numeral_at s at).end ≡ at
numeral_none s at h e = ap (λ (d : Decimal). d.end) (numeral_digits s at h ∙ e)

pub numeral_low : (s : List ℕ) (at : ℕ) → ((numeral_at s at).end ≡ at → ⊥) → 48 ≤ byte_at s at
numeral_low s at h = elim (dec_lt (byte_at s at) 48) [ yes p ↦ absurd (h (numeral_none s at (omega arith) (digits_below 0 at s p))) | no q ↦ omega arith ]

pub numeral_high : (s : List ℕ) (at : ℕ) → ((numeral_at s at).end ≡ at → ⊥) → byte_at s at ≤ 57
numeral_high s at h = elim (dec_lt 57 (byte_at s at)) [ yes p ↦ absurd (h (numeral_none s at (omega arith) (digits_above 0 at s p))) | no q ↦ omega arith ]

pub string_whole_inv : (s : List ℕ) (at start end : ℕ) → string_at s at ≡ Ok (text_of start end) → Whole s at start end
unfolding string_at
string_whole_inv s at start end e = go (eqb (numeral_at s at).end at) refl (eqb (byte_at s (numeral_at s at).end) 58) refl (leb (numeral_at s at).number (length s - ((numeral_at s at).end + 1))) refl e
  where
    go : (t : Bool) → eqb (numeral_at s at).end at ≡ t → (u : Bool) → eqb (byte_at s (numeral_at s at).end) 58 ≡ u → (v : Bool) → leb (numeral_at s at).number (length s - ((numeral_at s at).end + 1)) ≡ v
        → cond t (Err (fault Cause.Syntax at)) (cond u (cond v (Ok (text_of ((numeral_at s at).end + 1) ((numeral_at s at).end + 1 + (numeral_at s at).number))) (Err (fault Cause.Syntax (length s)))) (Err (fault Cause.Syntax (numeral_at s at).end))) ≡ Ok (text_of start end) → Whole s at start end
    go true p u q v r e = let z : ◌≡◌ {A = ℕ} 0 1 = cc in absurd (omega arith)
    go false p false q v r e = let z : ◌≡◌ {A = ℕ} 0 1 = cc in absurd (omega arith)
    go false p true q false r e = let z : ◌≡◌ {A = ℕ} 0 1 = cc in absurd (omega arith)
    go false p true q true r e =
        let both = same_text ((numeral_at s at).end + 1) ((numeral_at s at).end + 1 + (numeral_at s at).number) start end e in
        let a : (numeral_at s at).end + 1 ≡ start = both.0 in
        let b : (numeral_at s at).end + 1 + (numeral_at s at).number ≡ end = both.1 in
        let colon : byte_at s (numeral_at s at).end ≡ 58 = eqb-true (byte_at s (numeral_at s at).end) 58 q in
        record {
          low = numeral_low s at (eqb-false (numeral_at s at).end at p);
          high = numeral_high s at (eqb-false (numeral_at s at).end at p);
          starts = omega (arith, numeral_forward s at);
          ordered = omega arith;
          within = omega (arith, inside s (numeral_at s at).end (omega arith), leb-true (numeral_at s at).number (length s - ((numeral_at s at).end + 1)) r);
          some = eqb-false (numeral_at s at).end at p;
          colon = colon;
          numeral_end = a;
          number = omega arith;
        }

-- an integer's digits and its `e`, as the definition has them
pub record WholeInteger (s : List ℕ) (from : ℕ) (negative : Bool) (z : ℤ) (end : ℕ) : Type 0 where
  pub some : (numeral_at s from).end ≡ from → ⊥
  pub letter : byte_at s (numeral_at s from).end ≡ 101
  pub value : signed negative (numeral_at s from).number ≡ z
  pub fits : mag z < 2 ^ 63
  pub numeral_end : (numeral_at s from).end + 1 ≡ end

pub integer_from_inv : (s : List ℕ) (at from : ℕ) (negative : Bool) (z : ℤ) (end : ℕ) → integer_from s at from negative ≡ Ok (number_of z end) → WholeInteger s from negative z end
unfolding integer_from
integer_from_inv s at from negative z end e = go (eqb (numeral_at s from).end from) refl (eqb (byte_at s (numeral_at s from).end) 101) refl (ltb (mag (signed negative (numeral_at s from).number)) (2 ^ 63)) refl e
  where
    go : (t : Bool) → eqb (numeral_at s from).end from ≡ t → (u : Bool) → eqb (byte_at s (numeral_at s from).end) 101 ≡ u → (v : Bool) → ltb (mag (signed negative (numeral_at s from).number)) (2 ^ 63) ≡ v
        → cond t (Err (fault Cause.Syntax from)) (cond u (cond v (Ok (number_of (signed negative (numeral_at s from).number) ((numeral_at s from).end + 1))) (Err (fault Cause.Range at))) (Err (fault Cause.Syntax (numeral_at s from).end))) ≡ Ok (number_of z end) → WholeInteger s from negative z end
    go true p u q v r e = let z : ◌≡◌ {A = ℕ} 0 1 = cc in absurd (omega arith)
    go false p false q v r e = let z : ◌≡◌ {A = ℕ} 0 1 = cc in absurd (omega arith)
    go false p true q false r e = let z : ◌≡◌ {A = ℕ} 0 1 = cc in absurd (omega arith)
    go false p true q true r e =
        let both : number_of (signed negative (numeral_at s from).number) ((numeral_at s from).end + 1) ≡ number_of z end = cc in
        let i : signed negative (numeral_at s from).number ≡ z = ap (λ (n : Number). n.value) both in
        let b : (numeral_at s from).end + 1 ≡ end = ap (λ (n : Number). n.end) both in
        record {
          some = eqb-false (numeral_at s from).end from p;
          letter = eqb-true (byte_at s (numeral_at s from).end) 101 q;
          value = i;
          fits = subst (λ (k : ℤ). mag k < 2 ^ 63) i (ltb-true (mag (signed negative (numeral_at s from).number)) (2 ^ 63) r);
          numeral_end = b;
        }

-- an integer with its `i` and its sign
pub data SignedInteger (s : List ℕ) (at : ℕ) (z : ℤ) (end : ℕ) : Type 0 where
  plus : byte_at s at ≡ 105 → WholeInteger s (at + 1) false z end → SignedInteger s at z end
  minus : byte_at s at ≡ 105 → byte_at s (at + 1) ≡ 45 → (byte_at s (at + 2) ≡ 48 → ⊥) → WholeInteger s (at + 2) true z end → SignedInteger s at z end

pub integer_inv : (s : List ℕ) (at : ℕ) (z : ℤ) (end : ℕ) → integer_at s at ≡ Ok (number_of z end) → SignedInteger s at z end
unfolding integer_at
integer_inv s at z end e = go (eqb (byte_at s at) 105) refl (eqb (byte_at s (at + 1)) 45) refl (eqb (byte_at s (at + 2)) 48) refl e
  where
    go : (t : Bool) → eqb (byte_at s at) 105 ≡ t → (u : Bool) → eqb (byte_at s (at + 1)) 45 ≡ u → (v : Bool) → eqb (byte_at s (at + 2)) 48 ≡ v → cond t (cond u (cond v (Err (fault Cause.Syntax (at + 2))) (integer_from s at (at + 2) true)) (integer_from s at (at + 1) false)) (Err (fault Cause.Syntax at)) ≡ Ok (number_of z end) → SignedInteger s at z end
    go false p u q v r e = let z : ◌≡◌ {A = ℕ} 0 1 = cc in absurd (omega arith)
    go true p true q true r e = let z : ◌≡◌ {A = ℕ} 0 1 = cc in absurd (omega arith)
    go true p true q false r e = minus (eqb-true (byte_at s at) 105 p) (eqb-true (byte_at s (at + 1)) 45 q) (eqb-false (byte_at s (at + 2)) 48 r) (integer_from_inv s at (at + 2) true z end e)
    go true p false q v r e = plus (eqb-true (byte_at s at) 105 p) (integer_from_inv s at (at + 1) false z end e)

whole_past : (s : List ℕ) (at from : ℕ) (negative : Bool) (z : ℤ) (end : ℕ) → at < from → WholeInteger s from negative z end → Past s at end
whole_past s at from negative z end h w = omega (arith, numeral_forward s from, inside s (numeral_at s from).end (omega arith))

pub integer_ends : (s : List ℕ) (at : ℕ) (z : ℤ) (end : ℕ) → integer_at s at ≡ Ok (number_of z end) → Past s at end
integer_ends s at z end e = go (integer_inv s at z end e)
  where
    go : SignedInteger s at z end → Past s at end
    go (plus b w) = whole_past s at (at + 1) false z end (omega arith) w
    go (minus b c d w) = whole_past s at (at + 2) true z end (omega arith) w

-- a string or an integer: where it ends, and which byte it does not begin with
pub record Scalar (s : List ℕ) (at end : ℕ) : Type 0 where
  pub past : Past s at end
  pub no_e : byte_at s at ≡ 101 → ⊥
  pub no_list : byte_at s at ≡ 108 → ⊥
  pub no_dictionary : byte_at s at ≡ 100 → ⊥

pub scalar_ends : (s : List ℕ) (at end : ℕ) → scalar_at s at ≡ Ok end → Scalar s at end
unfolding scalar_at
scalar_ends s at end e = go (eqb (byte_at s at) 105) refl (integer_at s at) refl (string_at s at) refl e
  where
    go : (t : Bool) → eqb (byte_at s at) 105 ≡ t → (n : Result Number Fault) → integer_at s at ≡ n → (x : Result Text Fault) → string_at s at ≡ x → cond t (number_end n) (text_end x) ≡ Ok end → Scalar s at end
    go true p (Err f) q x r e = let z : ◌≡◌ {A = ℕ} 0 1 = cc in absurd (omega arith)
    go true p (Ok n) q x r e =
        let b : byte_at s at ≡ 105 = eqb-true (byte_at s at) 105 p in
        let i : n.end ≡ end = cc in
        record { past = omega (arith, integer_ends s at n.value n.end q); no_e = omega arith; no_list = omega arith; no_dictionary = omega arith }
    go false p n q (Err f) r e = let z : ◌≡◌ {A = ℕ} 0 1 = cc in absurd (omega arith)
    go false p n q (Ok t) r e =
        let i : t.end ≡ end = cc in
        let w = string_whole_inv s at t.start t.end r in
        record { past = omega arith; no_e = omega arith; no_list = omega arith; no_dictionary = omega arith }

-- an integer that is read fits 64 bits
pub integer_fits_lem : (s : List ℕ) (at : ℕ) (z : ℤ) (end : ℕ) → integer_at s at ≡ Ok (number_of z end) → SFits w64 z
integer_fits_lem s at z end e = go (integer_inv s at z end e)
  where
    go : SignedInteger s at z end → SFits w64 z
    go (plus b w) = record { sfits = w.fits }
    go (minus b c d w) = record { sfits = w.fits }

-- ---- the offset after a walk, and none for a fault
pub after_end : (w : Walk) (r : ℕ) → after_of w ≡ Some r → w ≡ Ok r
after_end (Ok k) r e = ap Ok (same_Some k r e)
after_end (Err f) r e = absurd (none-some r e)

pub after_fault : (s : List ℕ) (at : ℕ) → after_of (scalar_at s at) ≡ None → (f : Fault) × (scalar_at s at ≡ Err f)
after_fault s at e = go (scalar_at s at) refl e
  where
    go : (w : Walk) → scalar_at s at ≡ w → after_of w ≡ None → (f : Fault) × (scalar_at s at ≡ Err f)
    go (Ok k) x e = absurd (none-some k (sym e))
    go (Err f) x e = (f, x)

-- an integer that is read is the string or integer there
pub integer_scalar : (s : List ℕ) (at : ℕ) (z : ℤ) (end : ℕ) → integer_at s at ≡ Ok (number_of z end) → scalar_at s at ≡ Ok end
unfolding scalar_at
integer_scalar s at z end e = go (integer_inv s at z end e)
  where
    go : SignedInteger s at z end → cond (eqb (byte_at s at) 105) (number_end (integer_at s at)) (text_end (string_at s at)) ≡ Ok end
    go (plus b w) = rw (eq-eqb (byte_at s at) 105 b, e) refl
    go (minus b c d w) = rw (eq-eqb (byte_at s at) 105 b, e) refl
