-- Laws of text: what follows a first byte, by its row; and one law for each way through `is_text`.
-- Assumes nothing.
use Prim.Native.Nat.{ℕ, zero, suc, ◌+◌, ◌-◌, ◌≤◌, ◌<◌}
use mathlib.Core.Path.{◌≡◌, refl, sym}
use mathlib.Core.Bool.{false, cond}
use mathlib.Core.List.{List, [], ◌∷◌}
use native.Mathlib.Omega.{arith}
use native.Mathlib.Numerals.{add-one}
use borrow.Author.Tests.{le-leb, lt-leb}
use lib.Dec.{eqb, leb, eqb-suc-zero}
use lib.ListN.{length, get_or, drop, drop_of_length-le}
use lib.Seq.{drop-cons}
use Rattle.bencode.specs.Utf8.{following, lowest, highest, text_from}

-- ---- the rows of the first byte
module _ (b : ℕ) where
  pub none_zero : b ≤ 0 → following b ≡ 4
  none_zero h = rw (le-leb b 0 h) refl

  -- a byte 1 to 7F is a character
  pub one_byte : 0 < b → b ≤ 0x7F → following b ≡ 0
  one_byte l h = rw (lt-leb b 0 l, le-leb b 0x7F h) refl

  pub none_low : 0x7F < b → b ≤ 0xC1 → following b ≡ 4
  none_low l h = rw (lt-leb b 0 (omega arith), lt-leb b 0x7F l, le-leb b 0xC1 h) refl

  pub two_bytes : 0xC1 < b → b ≤ 0xDF → following b ≡ 1
  two_bytes l h = rw (lt-leb b 0 (omega arith), lt-leb b 0x7F (omega arith), lt-leb b 0xC1 l, le-leb b 0xDF h) refl

  pub three_bytes : 0xDF < b → b ≤ 0xEF → following b ≡ 2
  three_bytes l h = rw (lt-leb b 0 (omega arith), lt-leb b 0x7F (omega arith), lt-leb b 0xC1 (omega arith), lt-leb b 0xDF l, le-leb b 0xEF h) refl

  pub four_bytes : 0xEF < b → b ≤ 0xF4 → following b ≡ 3
  four_bytes l h = rw (lt-leb b 0 (omega arith), lt-leb b 0x7F (omega arith), lt-leb b 0xC1 (omega arith), lt-leb b 0xDF (omega arith), lt-leb b 0xEF l, le-leb b 0xF4 h) refl

  pub none_high : 0xF4 < b → following b ≡ 4
  none_high l = rw (lt-leb b 0 (omega arith), lt-leb b 0x7F (omega arith), lt-leb b 0xC1 (omega arith), lt-leb b 0xDF (omega arith), lt-leb b 0xEF (omega arith), lt-leb b 0xF4 l) refl

  -- what follows a first byte, row by row
  pub ruleset first_bytes = (none_zero, one_byte, none_low, two_bytes, three_bytes, four_bytes, none_high)

-- between two characters the range does not matter
pub between : (l h m k : ℕ) (s : List ℕ) → text_from 0 l h s ≡ text_from 0 m k s
unfolding text_from
between l h m k [] = refl
between l h m k (b ∷ bs) = refl

pub text_end_lem : (x : List ℕ) (i left low high : ℕ) → length x ≤ i → text_from left low high (drop i x) ≡ eqb left 0
unfolding text_from
text_end_lem x i zero low high h = rw (drop_of_length-le x {i = i} h) refl
text_end_lem x i (suc n) low high h = rw (drop_of_length-le x {i = i} h) (sym (eqb-suc-zero n))

module _ (x : List ℕ) (i low high : ℕ) (p : i < length x) where
  first_step : text_from 0 low high (drop i x) ≡ cond (leb (following (get_or x i 0)) 3) (text_from (following (get_or x i 0)) (lowest (get_or x i 0)) (highest (get_or x i 0)) (drop (i + 1) x)) false
  unfolding text_from
  first_step = rw (add-one i, drop-cons x i 0 p) refl

  next_step_lem : (n : ℕ) → text_from (suc n) low high (drop i x) ≡ cond (leb low (get_or x i 0)) (cond (leb (get_or x i 0) high) (text_from n 0x80 0xBF (drop (i + 1) x)) false) false
  unfolding text_from
  next_step_lem n = rw (add-one i, drop-cons x i 0 p) refl

  pub text_no_first : (left : ℕ) → left ≡ 0 → 3 < following (get_or x i 0) → text_from left low high (drop i x) ≡ false
  text_no_first left z h = rw (z, first_step, lt-leb (following (get_or x i 0)) 3 h) refl

  pub text_first : (left : ℕ) → left ≡ 0 → following (get_or x i 0) ≤ 3 → text_from (following (get_or x i 0)) (lowest (get_or x i 0)) (highest (get_or x i 0)) (drop (i + 1) x) ≡ text_from left low high (drop i x)
  text_first left z h = rw (z, first_step, le-leb (following (get_or x i 0)) 3 h) refl

  pub text_low : (left : ℕ) → (left ≡ 0 → ⊥) → get_or x i 0 < low → text_from left low high (drop i x) ≡ false
  text_low zero s h = absurd (s refl)
  text_low (suc n) s h = rw (next_step_lem n, lt-leb low (get_or x i 0) h) refl

  pub text_high : (left : ℕ) → (left ≡ 0 → ⊥) → low ≤ get_or x i 0 → high < get_or x i 0 → text_from left low high (drop i x) ≡ false
  text_high zero s l h = absurd (s refl)
  text_high (suc n) s l h = rw (next_step_lem n, le-leb low (get_or x i 0) l, lt-leb (get_or x i 0) high h) refl

  pub text_next : (left : ℕ) → (left ≡ 0 → ⊥) → low ≤ get_or x i 0 → get_or x i 0 ≤ high → text_from (left - 1) 0x80 0xBF (drop (i + 1) x) ≡ text_from left low high (drop i x)
  text_next zero s l h = absurd (s refl)
  text_next (suc n) s l h = let e : suc n - 1 ≡ n = omega arith in rw (e, next_step_lem n, le-leb low (get_or x i 0) l, le-leb (get_or x i 0) high h) refl
