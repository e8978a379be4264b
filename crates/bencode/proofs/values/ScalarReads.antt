-- Numerals, strings and integers are read back as they were written.
-- Assumes nothing.
use Prim.Native.Nat.{ℕ, suc, ◌+◌, ◌-◌, ◌^◌, ◌≤◌, ◌<◌}
use mathlib.Core.Path.{◌≡◌, refl, sym, ap, subst, ◌∙◌}
use mathlib.Core.Bool.{Bool, true, false}
use mathlib.Core.List.{List, [], ◌∷◌, ◌++◌}
use native.Mathlib.Omega.{arith}
use native.Mathlib.Nat.{add-zero}
use native.Mathlib.Decide.{ℕ_discrete}
use borrow.Author.Tests.{eq-eqb, ne_eqb, le-leb, lt-leb, lt-ltb}
use lib.IntN.{ℤ, pos, negsuc}
use lib.Signed.{mag}
use lib.ListN.{length, get_or}
use lib.Seq.{get_or-drop}
use Rattle.octets.specs.Bytes.{byte_at, slice, Begins}
use Rattle.octets.specs.Numerals.{is_digit, digits, numeral_at, decimal}
use Rattle.bencode.specs.Strings.{string_at, text_of}
use Rattle.bencode.specs.Integers.{integer_from, integer_at, signed, number_of}
use Rattle.bencode.specs.Value.{signed_decimal, encode_string}
use Rattle.octets.proofs.digits.NumeralLaws.{inside, digits_stop, numeral_zero, numeral_digits}
use Rattle.octets.proofs.digits.DecimalLaws.{decimal_small, digits_decimal, First, first}
use Rattle.octets.proofs.sequences.BeginsLaws.{begins_rest, begins_left, begins_right, begins_head, begins_within, slice_begins}
use Rattle.std.specs.Prelude.{Ok}

module _ (s : List ℕ) where
  -- a number's digits begin with a digit
  pub first_digit : (at n e : ℕ) → Begins s at (decimal n) e → First n (byte_at s at)
  first_digit at n e b =
      let h : byte_at s at ≡ get_or (decimal n ++ b.rest) 0 0 = ap (λ (k : ℕ). get_or s k 0) (sym (add-zero at)) ∙ sym (get_or-drop at s 0 0) ∙ ap (λ (l : List ℕ). get_or l 0 0) b.is in
      rw h (first n b.rest)

  pub numeral_reads : (at n e : ℕ) → Begins s at (decimal n) e → is_digit (byte_at s e) ≡ false → numeral_at s at ≡ record { end = e; number = n }
  numeral_reads at n e b stop = go (ℕ_discrete n 0)
    where
      go : Dec (n ≡ 0) → numeral_at s at ≡ record { end = e; number = n }
      go (yes z) =
          let one : decimal n ≡ 48 ∷ [] = ap decimal z ∙ decimal_small 0 (omega arith) in
          let end : at + 1 ≡ e = omega (arith, b.ends, ap length one) in
          numeral_zero s at (begins_head s at 48 e [] (subst (λ (l : List ℕ). Begins s at l e) one b)) ∙ rw (end, z) refl
      go (no h) =
          let f = first_digit at n e b in
          let big : 49 ≤ byte_at s at = f.positive (omega arith) in
          numeral_digits s at (omega arith) ∙ ap (digits 0 at) b.is ∙ digits_decimal n at b.rest
          ∙ ap (λ (k : ℕ). digits n k b.rest) (sym b.ends) ∙ ap (digits n e) (sym (begins_rest s at (decimal n) e b)) ∙ digits_stop n e s stop

  pub no_digit : (b : ℕ) → 57 < b → is_digit b ≡ false
  no_digit b h = rw (le-leb 48 b (omega arith), lt-leb b 57 h) refl

  -- ---- strings
  string_of_lem : (at m n e : ℕ) → numeral_at s at ≡ record { end = m; number = n } → (m ≡ at → ⊥) → byte_at s m ≡ 58 → n ≤ length s - (m + 1) → string_at s at ≡ Ok (text_of (m + 1) (m + 1 + n))
  unfolding string_at
  string_of_lem at m n e num some colon fits = rw (num, ne_eqb m at some, eq-eqb (byte_at s m) 58 colon, le-leb n (length s - (m + 1)) fits) refl

  pub string_reads : (at e : ℕ) (text : List ℕ) → Begins s at (encode_string text) e → (start : ℕ) × (string_at s at ≡ Ok (text_of start e)) × (slice s start e ≡ text) × (start + length text ≡ e)
  string_reads at e text b =
      let m = at + length (decimal (length text)) in
      let l = begins_left s at e (decimal (length text)) (58 ∷ text) b in
      let r = begins_right s at e (decimal (length text)) (58 ∷ text) b in
      let f = first_digit at (length text) (at + length (decimal (length text))) l in
      let colon : byte_at s (at + length (decimal (length text))) ≡ 58 = begins_head s (at + length (decimal (length text))) 58 e text r in
      let t = begins_right s (at + length (decimal (length text))) e (58 ∷ []) text r in
      let in-s = inside s (at + length (decimal (length text))) (omega arith) in
      let within = begins_within s (at + length (decimal (length text)) + 1) e text (omega arith) t in
      let some : at + length (decimal (length text)) ≡ at → ⊥ = λ q. omega (arith, f.high, ap (λ (k : ℕ). byte_at s k) q) in
      let last : at + length (decimal (length text)) + 1 + length text ≡ e = omega (arith, t.ends) in (
        at + length (decimal (length text)) + 1,
        string_of_lem at (at + length (decimal (length text))) (length text) e (numeral_reads at (length text) (at + length (decimal (length text))) l (no_digit (byte_at s (at + length (decimal (length text)))) (omega arith))) some colon (omega (arith, t.ends)) ∙ ap (λ (k : ℕ). Ok (text_of (at + length (decimal (length text)) + 1) k)) last,
        slice_begins s (at + length (decimal (length text)) + 1) e text t,
        last,
      )

  -- ---- integers
  integer_of_lem : (at from m n : ℕ) (negative : Bool) → numeral_at s from ≡ record { end = m; number = n } → (m ≡ from → ⊥) → byte_at s m ≡ 101 → mag (signed negative n) < 2 ^ 63 → integer_from s at from negative ≡ Ok (number_of (signed negative n) (m + 1))
  unfolding integer_from
  integer_of_lem at from m n negative num some letter fits = rw (num, ne_eqb m from some, eq-eqb (byte_at s m) 101 letter, lt-ltb (mag (signed negative n)) (2 ^ 63) fits) refl

  digits_read : (at from n e : ℕ) (negative : Bool) → Begins s from (decimal n ++ (101 ∷ [])) e → mag (signed negative n) < 2 ^ 63 → integer_from s at from negative ≡ Ok (number_of (signed negative n) e)
  digits_read at from n e negative b fits =
      let l = begins_left s from e (decimal n) (101 ∷ []) b in
      let r = begins_right s from e (decimal n) (101 ∷ []) b in
      let f = first_digit from n (from + length (decimal n)) l in
      let letter : byte_at s (from + length (decimal n)) ≡ 101 = begins_head s (from + length (decimal n)) 101 e [] r in
      let some : from + length (decimal n) ≡ from → ⊥ = λ q. omega (arith, f.high, ap (λ (k : ℕ). byte_at s k) q) in
      let last : from + length (decimal n) + 1 ≡ e = omega (arith, r.ends) in
      integer_of_lem at from (from + length (decimal n)) n negative (numeral_reads from n (from + length (decimal n)) l (no_digit (byte_at s (from + length (decimal n))) (omega arith))) some letter fits
      ∙ ap (λ (k : ℕ). Ok (number_of (signed negative n) k)) last

  pub integer_reads : (at e : ℕ) (z : ℤ) → mag z < 2 ^ 63 → Begins s at (105 ∷ (signed_decimal z ++ (101 ∷ []))) e → integer_at s at ≡ Ok (number_of z e)
  unfolding integer_at
  integer_reads at e (pos n) fits b =
      let i : byte_at s at ≡ 105 = begins_head s at 105 e (decimal n ++ (101 ∷ [])) b in
      let t = begins_right s at e (105 ∷ []) (decimal n ++ (101 ∷ [])) b in
      let f = first_digit (at + 1) n (at + 1 + length (decimal n)) (begins_left s (at + 1) e (decimal n) (101 ∷ []) t) in
      rw (eq-eqb (byte_at s at) 105 i, ne_eqb (byte_at s (at + 1)) 45 (omega (arith, f.low))) (digits_read at (at + 1) n e false t fits)
  integer_reads at e (negsuc k) fits b =
      let i : byte_at s at ≡ 105 = begins_head s at 105 e (45 ∷ (decimal (suc k) ++ (101 ∷ []))) b in
      let t = begins_right s at e (105 ∷ []) (45 ∷ (decimal (suc k) ++ (101 ∷ []))) b in
      let m : byte_at s (at + 1) ≡ 45 = begins_head s (at + 1) 45 e (decimal (suc k) ++ (101 ∷ [])) t in
      let two : at + 1 + 1 ≡ at + 2 = omega arith in
      let u = subst (λ (j : ℕ). Begins s j (decimal (suc k) ++ (101 ∷ [])) e) two (begins_right s (at + 1) e (45 ∷ []) (decimal (suc k) ++ (101 ∷ [])) t) in
      let f = first_digit (at + 2) (suc k) (at + 2 + length (decimal (suc k))) (begins_left s (at + 2) e (decimal (suc k)) (101 ∷ []) u) in
      let big : 49 ≤ byte_at s (at + 2) = f.positive (omega arith) in
      rw (eq-eqb (byte_at s at) 105 i, eq-eqb (byte_at s (at + 1)) 45 m, ne_eqb (byte_at s (at + 2)) 48 (omega arith)) (digits_read at (at + 2) (suc k) e true u fits)
