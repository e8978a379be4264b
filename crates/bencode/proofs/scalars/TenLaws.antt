-- Laws of numbers of at most ten digits, which are counted and not read: a bound of the number goes with them.
-- Assumes nothing.
use Prim.Native.Nat.{ℕ, zero, suc, ◌+◌, ◌-◌, ◌*◌, ◌^◌, ◌≤◌, ◌<◌}
use mathlib.Core.Path.{◌≡◌, refl, sym, ap, subst, ◌∙◌}
use mathlib.Core.Bool.{false}
use mathlib.Core.List.{List}
use native.Mathlib.Nat.{pow-succ', pow-le-pow_right, mul_assoc, mul_comm}
use native.Mathlib.Omega.{arith}
use native.Mathlib.Decide.{ℕ_discrete, dec_le}
use Prim.{Dec, yes, no}
use lib.IntN.{pos}
use Rattle.std.specs.Prelude.{Some}
use Rattle.octets.specs.declared.numerals.Decimal.{Decimal}
use Rattle.octets.specs.Bytes.{byte_at}
use Rattle.octets.specs.Numerals.{is_digit, digits_at}
use Rattle.octets.proofs.digits.NumeralLaws.{digits_stop, digits_below, digits_above}
use Rattle.bencode.specs.Integers.{BoundedDigits, integer_at, after_positive, number_of}
use Rattle.bencode.proofs.scalars.FewLaws.{Few, few_none, few_more, few_natural}
use Rattle.bencode.specs.Classes.{class_of, DigitsTo}
use Rattle.bencode.proofs.walking.ClassLaws.{digit_is, digit_is_not}
use Rattle.bencode.proofs.scalars.PositiveLaws.{number_within}
use Rattle.std.specs.Prelude.{Ok}

-- a byte of 0 to 9
abbrev pub Digit : ℕ → Type 0
Digit b = (48 ≤ b) × (b ≤ 57)

-- one more than the number of two digits: each is 48 too large as a byte
abbrev pub pair_above : List ℕ → ℕ → ℕ
pair_above s from = byte_at s from * 10 + byte_at s (from + 1) - 527

-- ---- what the first two of k digits tell of their number n
pub record Lead (s : List ℕ) (from k n : ℕ) : Type 0 where
  pub most : k ≤ 10
  pub none : k ≡ 0 → n ≡ 0
  pub one : k ≡ 1 → n ≡ byte_at s from - 48
  pub first : 0 < k → Digit (byte_at s from) × (byte_at s from - 48 ≤ n)
  pub two : (j : ℕ) → k ≡ j + 2 → Digit (byte_at s (from + 1)) × (n < pair_above s from * 10 ^ j)

-- some number goes with k digits
abbrev pub Tens : List ℕ → ℕ → ℕ → Type 0
Tens s from k = (n : ℕ) × Few s from k n × Lead s from k n

-- what the reader promises
abbrev pub Bounds : List ℕ → ℕ → ℕ → ℕ → Type 0
Bounds s from end above = (from ≤ end) × (end ≤ from + 10) × (byte_at s end ≡ 101 → BoundedDigits s from end above (digits_at s from))

module _ (s : List ℕ) (from : ℕ) where
  pub tens_none : Tens s from 0
  tens_none = (
    0,
    few_none s from,
    record {
      most = omega arith;
      none = λ _. refl;
      one = λ e. absurd (omega (arith, e));
      first = λ h. absurd (omega (arith, h));
      two = λ j e. absurd (omega (arith, e));
    },
  )

  module _ (k n : ℕ) (l : Lead s from k n) (h : k < 10) (low : 48 ≤ byte_at s (from + k)) (high : byte_at s (from + k) ≤ 57) where
    lead_more : Lead s from (k + 1) (n * 10 + (byte_at s (from + k) - 48))
    lead_more =
        record {
          most = omega arith;
          none = λ e. absurd (omega (arith, e));
          one = λ e. one (omega (arith, e));
          first = λ _. first (ℕ_discrete k 0);
          two = two;
        }
      where
        start : k ≡ 0 → byte_at s (from + k) ≡ byte_at s from
        start z = let e : from + k ≡ from = omega (arith, z) in ap (byte_at s) e

        one : k ≡ 0 → n * 10 + (byte_at s (from + k) - 48) ≡ byte_at s from - 48
        one z = omega (arith, l.none z, start z)

        first : Dec (k ≡ 0) → Digit (byte_at s from) × (byte_at s from - 48 ≤ n * 10 + (byte_at s (from + k) - 48))
        first (yes z) = (subst Digit (start z) (low, high), omega (arith, start z))
        first (no z) = let f = l.first (omega (arith, z)) in (f.0, omega (arith, f.1))

        two : (j : ℕ) → k + 1 ≡ j + 2 → Digit (byte_at s (from + 1)) × (n * 10 + (byte_at s (from + k) - 48) < pair_above s from * 10 ^ j)
        two zero e =
            let o : k ≡ 1 = omega (arith, e) in
            let q : byte_at s (from + k) ≡ byte_at s (from + 1) = ap (λ (i : ℕ). byte_at s (from + i)) o in
            let f = l.first (omega (arith, o)) in
            (subst Digit q (low, high), omega (arith, l.one o, low, q, f.0.0))
        two (suc j) e =
            let t = l.two j (omega (arith, e)) in
            let b = pair_above s from in
            let p : b * 10 ^ suc j ≡ b * 10 ^ j * 10 = ap (λ (i : ℕ). b * i) (pow-succ' 10 j ∙ mul_comm 10 (10 ^ j)) ∙ sym (mul_assoc b (10 ^ j) 10) in
            (t.0, omega (arith, t.1, p, low, high))

  told : (k n above : ℕ) → Lead s from k n → record { end = from + k; number = n } ≡ digits_at s from → n < above → n < 10 ^ 10 → BoundedDigits s from (from + k) above (digits_at s from)
  told k n above l is h t = subst (BoundedDigits s from (from + k) above) is (refl, h, t, λ i. (l.first (omega (arith, i))).1)

  module _ (k : ℕ) (t : Tens s from k) where
    -- the first two are digits
    pub tens_lead : 10 ≤ k → Digit (byte_at s from) × Digit (byte_at s (from + 1))
    tens_lead h = let l = t.2 in ((l.first (omega arith)).0, (l.two 8 (omega (arith, l.most))).0)

    pub tens_all : 10 ≤ k → Bounds s from (from + 10) (pair_above s from * 10 ^ 8)
    tens_all h =
        let l = t.2 in
        let all : k ≡ 10 = omega (arith, l.most) in
        let b : t.0 < 10 ^ 10 = rw all at t.1.below in (
          omega arith,
          omega arith,
          λ e.
              told 10 t.0 (pair_above s from * 10 ^ 8) (rw all at l)
              (sym (digits_above t.0 (from + 10) s (omega (arith, e))) ∙ (rw all at t.1.rest))
              (l.two 8 (omega (arith, all))).1 b,
        )

    module _ (h : k < 10) where
      pub tens_stop : is_digit (byte_at s (from + k)) ≡ false → Bounds s from (from + k) 1000000000
      tens_stop e =
          let m : k ≤ 9 = omega arith in
          let p : 10 ^ k ≤ 10 ^ 9 = pow-le-pow_right {n = 10} (omega arith) m in
          let b : t.0 < 10 ^ 9 = omega (arith, p, t.1.below) in
          (omega arith, omega arith, λ _. told k t.0 1000000000 t.2 (sym (digits_stop t.0 (from + k) s e) ∙ t.1.rest) b (omega (arith, b)))

      pub tens_more : 48 ≤ byte_at s (from + k) → byte_at s (from + k) ≤ 57 → Tens s from (k + 1)
      tens_more low high =
          let m = t.0 * 10 + (byte_at s (from + k) - 48) in
          (m, few_more s from k t.0 t.1 (omega arith) low high m refl, lead_more k t.0 t.2 h low high)

-- ---- as many digits as were found
module _ (s : List ℕ) (from : ℕ) where
  tens_to : (k : ℕ) → k ≤ 10 → ((j : ℕ) → j < k → class_of (byte_at s (from + j)) ≡ 48) → Tens s from k
  tens_to zero h d = tens_none s from
  tens_to (suc k) h d =
      let b = digit_is (byte_at s (from + k)) (d k (omega arith)) in
      let e : k + 1 ≡ suc k = omega arith in
      subst (Tens s from) e (tens_more s from k (tens_to k (omega (arith, h)) (λ j l. d j (omega (arith, l)))) (omega (arith, h)) b.0 b.1)

  module _ (end : ℕ) (found : DigitsTo s from 10 end) where
    tens_found : Tens s from (end - from)
    tens_found = tens_to (end - from) (omega (arith, found.1)) (λ j h. found.2 j (omega (arith, h, found.0)))

    pub tens_fewer : end < from + 10 → Bounds s from end 1000000000
    tens_fewer l =
        let k = end - from in
        let e : from + k ≡ end = omega (arith, found.0) in
        let none = digit_is_not (byte_at s (from + k)) (rw e (found.3 l)) in
        subst (λ (i : ℕ). Bounds s from i 1000000000) e (tens_stop s from k tens_found (omega (arith, l, found.0)) none)

    pub tens_first : from + 10 ≤ end → Digit (byte_at s from) × Digit (byte_at s (from + 1))
    tens_first l = tens_lead s from (end - from) tens_found (omega (arith, l))

    pub tens_most : from + 10 ≤ end → Bounds s from end (pair_above s from * 100000000)
    tens_most l =
        let e : from + 10 ≡ end = omega (arith, l, found.1) in
        subst (λ (i : ℕ). Bounds s from i (pair_above s from * 100000000)) e (tens_all s from (end - from) tens_found (omega (arith, l)))

-- ---- an integer of some digits, the first of which is no 0, and whose bound is at most another
pub ten_positive : (s : List ℕ) (at high end above : ℕ) → BoundedDigits s (at + 1) end above (digits_at s (at + 1)) → byte_at s end ≡ 101 → byte_at s at ≡ 105 → (byte_at s (at + 1) ≡ 48 → ⊥) → (end ≡ at + 1 → ⊥) → at + 1 ≤ end → above ≤ high → after_positive high (integer_at s at) ≡ Some (end + 1)
ten_positive s at high end above (is, h, t, first) e i z o some l =
    let d = digits_at s (at + 1) in
    let more : at + 1 < end = omega (arith, o, some) in
    let digit : 48 ≤ byte_at s (at + 1) = elim (dec_le 48 (byte_at s (at + 1))) [ yes p ↦ p | no q ↦ absurd (omega (arith, more, is, ap (λ (x : Decimal). x.end) (digits_below 0 (at + 1) s (omega (arith, q))))) ] in
    let read : integer_at s at ≡ Ok (number_of (pos d.number) (d.end + 1)) = few_natural s at d refl (ap (byte_at s) (sym is) ∙ e) i (omega (arith, t)) (omega (arith, is, more)) (λ q. absurd (z q)) in
    sym (ap (λ (n : ℕ). Some (n + 1)) is ∙ number_within s at high d.number (d.end + 1) read (omega (arith, first more, digit, z)) (omega (arith, h, l)))
