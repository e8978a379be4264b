-- The table of the powers of ten.
-- Assumes nothing.
use Prim.Native.Nat.{ℕ, zero, suc, ◌*◌, ◌^◌, ◌≤◌, ◌<◌, max}
use mathlib.Core.Path.{◌≡◌, sym, ap, ◌∙◌}
use mathlib.Core.Bool.{Bool}
use mathlib.Core.List.{List, [], ◌∷◌, ◌++◌}
use native.Mathlib.Nat.{one-le-pow, pow-succ'}
use native.Mathlib.Omega.{arith}
use lib.Dec.{eqb, eqb→eq}
use lib.ListN.{length, get_or, take, length-append}
use lib.Seq.{length-take-le, get_or-append_seam, take-append_seam}
use Rattle.std.proofs.lemmas.List.{get_or-take, take-take}
use Rattle.std.specs.Prelude.{Option, Some, None, MatchOption, unwrap_or}
use Rattle.std.specs.List.{AllWithin, HoldsAt}
use Rattle.octets.specs.declared.decimal.TheConstants.{TENS}
use Rattle.octets.specs.Numerals.{decimal}
use Rattle.octets.proofs.general.Table.{at}
use Rattle.octets.proofs.digits.DigitLaws.{length_above, length_below, length_pos}

right : ℕ → ℕ → Bool
right k x = eqb x (10 ^ k)

pub ten_at : (k : ℕ) → k < 20 → get_or TENS k 0 ≡ 10 ^ k
unfolding right
ten_at k h = eqb→eq (get_or TENS k 0) (10 ^ k) (at right TENS tt k h)

-- the powers of ten below the one that has as many zeros as they are, the least first
pub record Tens (xs : List ℕ) : Type 0 where
  pub are : xs ≡ take (length xs) TENS
  pub fit : length xs ≤ 20

pub tens_first : (k : ℕ) → k ≤ 20 → Tens (take k TENS)
tens_first k h =
    let n : length (take k TENS) ≡ k = length-take-le k TENS h in
    record { are = ap (λ j. take j TENS) (sym n); fit = omega arith }

-- the last of them, and those before it
pub record Last (xs ys : List ℕ) (p : ℕ) : Type 0 where
  pub longer : length xs ≡ suc (length ys)
  pub power : p ≡ 10 ^ length ys
  pub positive : 0 < p
  pub tenfold : 10 ^ length xs ≡ 10 * p
  pub before : Tens ys

pub tens_last : (xs ys : List ℕ) (p : ℕ) → xs ≡ ys ++ (p ∷ []) → Tens xs → Last xs ys p
tens_last xs ys p e t =
    let n : length xs ≡ suc (length ys) = omega (arith, ap length e ∙ length-append ys (p ∷ [])) in
    let at_end : get_or xs (length ys) 0 ≡ p = ap (λ l. get_or l (length ys) 0) e ∙ get_or-append_seam ys p [] 0 in
    let in_table : get_or xs (length ys) 0 ≡ get_or TENS (length ys) 0 = ap (λ l. get_or l (length ys) 0) t.are ∙ get_or-take (length xs) TENS (length ys) 0 (omega arith) in
    let power : p ≡ 10 ^ length ys = sym at_end ∙ in_table ∙ ten_at (length ys) (omega (arith, t.fit)) in
    let front : take (length ys) xs ≡ ys = ap (take (length ys)) e ∙ take-append_seam ys (p ∷ []) in
    record {
      longer = n;
      power = power;
      positive = rw power (one-le-pow (length ys) 10 (omega arith));
      tenfold = rw (n, power) (pow-succ' 10 (length ys));
      before = record {
        are = sym front ∙ ap (take (length ys)) t.are ∙ take-take (length ys) (length xs) TENS (omega arith);
        fit = omega (arith, t.fit);
      };
    }

-- where the first of them stands that a number is below, so many digits it has; and one at least
pub length_first : (n : ℕ) (r : Option ℕ) → n < 10 ^ 20
    → MatchOption r (AllWithin (λ p. p ≤ n) TENS 0 20) (λ k. (k < 20) × HoldsAt (λ p. n < p) TENS k × AllWithin (λ p. p ≤ n) TENS 0 k)
    → (max (unwrap_or r 20) 1 ≡ length (decimal n)) × (max (unwrap_or r 20) 1 ≤ 20)
length_first n None b h =
    let low : 10 ^ 19 ≤ n = omega (arith, h 19 0 (omega arith) (omega arith), ten_at 19 (omega arith)) in
    let e : 20 ≡ length (decimal n) = omega (arith, length_above 19 n low, length_below 20 n (omega arith) b) in
    (omega arith, omega arith)
length_first n (Some zero) b h =
    let one : n < 1 = omega (arith, h.1 0, ten_at 0 (omega arith)) in
    let e : 1 ≡ length (decimal n) = omega (arith, length_pos n, length_below 1 n (omega arith) (omega arith)) in
    (omega arith, omega arith)
length_first n (Some (suc k)) b h =
    let high : n < 10 ^ suc k = omega (arith, h.1 0, ten_at (suc k) h.0) in
    let low : 10 ^ k ≤ n = omega (arith, h.2 k 0 (omega arith) (omega arith), ten_at k (omega arith)) in
    let e : suc k ≡ length (decimal n) = omega (arith, length_above k n low, length_below (suc k) n (omega arith) high) in
    (omega arith, omega arith)
