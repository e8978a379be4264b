-- Laws of numbers of few digits: as many as fit 63 bits, whatever they are, so that their reader asks for no room.
-- Assumes nothing.
use Prim.Native.Nat.{ℕ, zero, suc, ◌+◌, ◌-◌, ◌*◌, ◌^◌, ◌≤◌, ◌<◌}
use mathlib.Core.Path.{◌≡◌, refl, sym, ap, subst, ◌∙◌}
use mathlib.Core.Bool.{false}
use mathlib.Core.List.{List}
use native.Mathlib.Nat.{add-zero, pow-succ', pow-le-pow_right}
use native.Mathlib.Numerals.{add-one}
use native.Mathlib.Omega.{arith}
use native.Mathlib.Decide.{ℕ_discrete}
use Prim.{Dec, yes, no}
use lib.IntN.{pos}
use lib.ListN.{drop}
use Rattle.octets.specs.declared.numerals.Decimal.{Decimal}
use Rattle.octets.specs.Bytes.{byte_at}
use Rattle.octets.specs.Numerals.{is_digit, digits, digits_at, numeral_at, capped}
use Rattle.octets.proofs.digits.NumeralLaws.{digits_stop, digits_above, digits_more, numeral_zero, numeral_digits, capped_fits}
use Rattle.bencode.specs.Integers.{integer_at, number_end, number_of}
use Rattle.bencode.specs.Classes.{class_of, DigitsTo}
use Rattle.bencode.proofs.walking.ClassLaws.{digit_is, digit_is_not}
use Rattle.bencode.proofs.scalars.IntegerLaws.{integer_natural}
use Rattle.std.specs.Prelude.{Ok}

-- ---- after k digits with the number n: the digits left come to the same as all of them
pub record Few (s : List ℕ) (from k n : ℕ) : Type 0 where
  pub most : k ≤ 18
  pub below : n < 10 ^ k
  pub rest : digits n (from + k) (drop (from + k) s) ≡ digits_at s from

-- what is known where the digits end, or are as many as are read at once
abbrev Read : List ℕ → ℕ → Decimal → Type 0
Read s from r = (from ≤ r.end) × (r.end ≤ from + 18) × (r.number < 10 ^ 18) × (r.end < from + 18 → r ≡ digits_at s from)

module _ (s : List ℕ) (from : ℕ) where
  pub few_none : Few s from 0 0
  few_none = record { most = omega arith; below = omega arith; rest = rw (add-zero from) refl }

  few_all : (k n : ℕ) → Few s from k n → 18 ≤ k → Read s from (record { end = from + 18; number = n })
  few_all k n f h =
      let all : k ≡ 18 = omega (arith, f.most) in
      (omega arith, omega arith, rw all at f.below, λ l. absurd (omega (arith, l)))

  module _ (k n : ℕ) (f : Few s from k n) (h : k < 18) where
    -- there is room for one more
    few_room : n < 10 ^ 17
    few_room =
        let l : k ≤ 17 = omega arith in
        let p : 10 ^ k ≤ 10 ^ 17 = pow-le-pow_right {n = 10} (omega arith) l in
        omega (arith, p, f.below)

    few_other : is_digit (byte_at s (from + k)) ≡ false → Read s from (record { end = from + k; number = n })
    few_other o = (omega arith, omega arith, omega (arith, few_room), λ _. sym (digits_stop n (from + k) s o) ∙ f.rest)

    pub few_more : 48 ≤ byte_at s (from + k) → byte_at s (from + k) ≤ 57 → (m : ℕ) → m ≡ n * 10 + (byte_at s (from + k) - 48) → Few s from (k + 1) m
    few_more low high m e =
        let p : 10 ^ (k + 1) ≡ 10 * 10 ^ k = rw (add-one k) (pow-succ' 10 k) in
        let next : from + (k + 1) ≡ from + k + 1 = omega arith in
        record {
          most = omega arith;
          below = omega (arith, p, f.below);
          rest = rw (e, next) (sym (digits_more n (from + k) s low high)) ∙ f.rest;
        }

-- ---- a reader counts the digits only: some number goes with them
abbrev pub Counted : List ℕ → ℕ → ℕ → Type 0
Counted s from k = (n : ℕ) × Few s from k n

-- what it promises
abbrev pub Ends : List ℕ → ℕ → ℕ → Type 0
Ends s from r = (r ≡ (digits_at s from).end) × ((digits_at s from).number < 10 ^ 18)

abbrev pub Read-end : List ℕ → ℕ → ℕ → Type 0
Read-end s from r = (from ≤ r) × (r ≤ from + 18) × (r < from + 18 → Ends s from r)

module _ (s : List ℕ) (from : ℕ) where
  read_end : (d : Decimal) → Read s from d → Read-end s from d.end
  read_end d (low, high, below, is) = (low, high, λ l. (ap (λ (e : Decimal). e.end) (is l), rw (is l) at below))

  pub counted_none : Counted s from 0
  counted_none = (0, few_none s from)

  pub counted_all : (k : ℕ) → Counted s from k → 18 ≤ k → Read-end s from (from + 18)
  counted_all k (n, f) h = read_end (record { end = from + 18; number = n }) (few_all s from k n f h)

  module _ (k : ℕ) (f : Counted s from k) (h : k < 18) where
    pub counted_other : is_digit (byte_at s (from + k)) ≡ false → Read-end s from (from + k)
    counted_other o = read_end (record { end = from + k; number = f.0 }) (few_other s from k f.0 f.1 h o)

    pub counted_more : 48 ≤ byte_at s (from + k) → byte_at s (from + k) ≤ 57 → Counted s from (k + 1)
    counted_more low high =
        let m = f.0 * 10 + (byte_at s (from + k) - 48) in
        (m, few_more s from k f.0 f.1 h low high m refl)

-- ---- as many digits as were found
module _ (s : List ℕ) (from : ℕ) where
  counted_to : (k : ℕ) → k ≤ 18 → ((j : ℕ) → j < k → class_of (byte_at s (from + j)) ≡ 48) → Counted s from k
  counted_to zero h d = counted_none s from
  counted_to (suc k) h d =
      let b = digit_is (byte_at s (from + k)) (d k (omega arith)) in
      let e : k + 1 ≡ suc k = omega arith in
      subst (Counted s from) e (counted_more s from k (counted_to k (omega (arith, h)) (λ j l. d j (omega (arith, l)))) (omega (arith, h)) b.0 b.1)

  pub few_ends : (end : ℕ) → DigitsTo s from 18 end → end < from + 18 → Ends s from end
  few_ends end (low, high, found, other) l =
      let k = end - from in
      let e : from + k ≡ end = omega (arith, low) in
      let c = counted_to k (omega (arith, high)) (λ j h. found j (omega (arith, h, low))) in
      let none = digit_is_not (byte_at s (from + k)) (rw e (other l)) in
      subst (Ends s from) e ((counted_other s from k c (omega (arith, l, low)) none).2 (omega (arith, l, e)))

-- ---- an integer of few digits and no sign: its digits are a numeral where a first 0 is the only one
module _ (s : List ℕ) (at : ℕ) (d : Decimal) (is : d ≡ digits_at s (at + 1)) (e : byte_at s d.end ≡ 101) where
  few_numeral : (byte_at s (at + 1) ≡ 48 → d.end ≡ at + 1 + 1) → d ≡ numeral_at s (at + 1)
  few_numeral only = go (ℕ_discrete (byte_at s (at + 1)) 48)
    where
      go : Dec (byte_at s (at + 1) ≡ 48) → d ≡ numeral_at s (at + 1)
      go (no z) = is ∙ sym (numeral_digits s (at + 1) z)
      go (yes z) =
          let m = 0 * 10 + (byte_at s (at + 1) - 48) in
          let o : m ≡ 0 = omega (arith, z) in
          let after : byte_at s (at + 1 + 1) ≡ 101 = ap (byte_at s) (sym (only z)) ∙ e in
          is
          ∙ digits_more 0 (at + 1) s (omega (arith, z)) (omega (arith, z))
          ∙ digits_above m (at + 1 + 1) s (omega (arith, after))
          ∙ ap {B = Decimal} (λ (n : ℕ). record { end = at + 1 + 1; number = n }) o
          ∙ sym (numeral_zero s (at + 1) z)

  pub few_natural : byte_at s at ≡ 105 → d.number < 10 ^ 18 → at + 1 < d.end → (byte_at s (at + 1) ≡ 48 → d.end ≡ at + 1 + 1) → integer_at s at ≡ Ok (number_of (pos d.number) (d.end + 1))
  few_natural i h some only =
      integer_natural s at d
      (capped_fits d.number d.end (omega (arith, h)) ∙ ap capped (few_numeral only))
      i (λ z. omega (arith, z, some)) e (omega (arith, h))

-- the same by the offset after the digits
pub few_plain : (s : List ℕ) (at end : ℕ) → Ends s (at + 1) end → byte_at s end ≡ 101 → byte_at s at ≡ 105 → at + 1 < end → (byte_at s (at + 1) ≡ 48 → end ≡ at + 1 + 1) → number_end (integer_at s at) ≡ Ok (end + 1)
few_plain s at end (is, h) e i some only =
    ap number_end (few_natural s at (digits_at s (at + 1)) refl (ap (byte_at s) (sym is) ∙ e) i h (rw is at some) (λ z. sym is ∙ only z))
    ∙ ap (λ (n : ℕ). Ok (n + 1)) (sym is)
