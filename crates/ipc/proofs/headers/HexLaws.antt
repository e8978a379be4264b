-- Hex digits that were read are written again in upper case, and those that were written are read again.
-- Assumes nothing.
use Prim.Native.Nat.{ℕ, zero, suc, ◌+◌, ◌*◌, ◌-◌, ◌/◌, ◌%◌, ◌^◌, ◌≤◌, ◌<◌}
use mathlib.Core.Bool.{Bool}
use mathlib.Core.Path.{◌≡◌, refl, sym, ap, ◌∙◌}
use mathlib.Core.List.{List, [], ◌∷◌, ◌++◌, map, append_assoc, append-nil}
use native.Mathlib.Nat.{pow-succ', one-le-pow, div-div-eq-div-mul, mul_assoc, mul_left_comm, add-mul}
use native.Mathlib.Omega.{arith}
use native.Mathlib.Decide.{dec_lt}
use borrow.Author.Tests.{lt-ltb, le-ltb}
use lib.Arith.{mod-mul}
use lib.Dec.{eqb, eqb→eq}
use lib.ListN.{length, get_or, set, replicate}
use Rattle.std.specs.Prelude.{bit_and}
use Rattle.std.proofs.lemmas.List.{get_or-set_same, get_or-set_other, length-set}
use Rattle.std.proofs.lemmas.Nat.{and_mask}
use Rattle.octets.proofs.general.Table.{at}
use Rattle.ipc.specs.Header.{header_length, hex_value}
use Rattle.ipc.specs.Hex.{hex_digit, hex_in, hex_header, upper}
use Rattle.ipc.specs.Demands.{HexDigits, none, more, hex_from}

-- ---- one digit
module _ (c : ℕ) where
  decimal_upper : 48 ≤ c → c < 58 → hex_digit (hex_value c) ≡ upper c
  unfolding hex_value hex_digit upper
  decimal_upper a b = rw (le-ltb c 48 a, lt-ltb c 58 b, lt-ltb (c - 48) 10 (omega arith), lt-ltb c 97 (omega arith)) (omega arith)

  capital_upper : 65 ≤ c → c < 71 → hex_digit (hex_value c) ≡ upper c
  unfolding hex_value hex_digit upper
  capital_upper a b =
      rw (le-ltb c 48 (omega arith), le-ltb c 58 (omega arith), le-ltb c 65 a, lt-ltb c 71 b, le-ltb (c - 55) 10 (omega arith), lt-ltb c 97 (omega arith)) (omega arith)

  letter_upper : 97 ≤ c → c < 103 → hex_digit (hex_value c) ≡ upper c
  unfolding hex_value hex_digit upper
  letter_upper a b =
      rw (le-ltb c 48 (omega arith), le-ltb c 58 (omega arith), le-ltb c 65 (omega arith), le-ltb c 71 (omega arith), le-ltb c 97 a, lt-ltb c 103 b, le-ltb (c - 87) 10 (omega arith), lt-ltb c 123 (omega arith)) (omega arith)

  -- bytes that are no digits
  low_none : c < 48 → hex_value c ≡ 16
  unfolding hex_value
  low_none a = rw (lt-ltb c 48 a)

  middle_none : 58 ≤ c → c < 65 → hex_value c ≡ 16
  unfolding hex_value
  middle_none a b = rw (le-ltb c 48 (omega arith), le-ltb c 58 a, lt-ltb c 65 b)

  upper_none : 71 ≤ c → c < 97 → hex_value c ≡ 16
  unfolding hex_value
  upper_none a b = rw (le-ltb c 48 (omega arith), le-ltb c 58 (omega arith), le-ltb c 65 (omega arith), le-ltb c 71 a, lt-ltb c 97 b)

  high_none : 103 ≤ c → hex_value c ≡ 16
  unfolding hex_value
  high_none a = rw (le-ltb c 48 (omega arith), le-ltb c 58 (omega arith), le-ltb c 65 (omega arith), le-ltb c 71 (omega arith), le-ltb c 97 (omega arith), le-ltb c 103 a)

  -- the digit of a byte's value is the byte in upper case
  pub digit_value : hex_value c < 16 → hex_digit (hex_value c) ≡ upper c
  digit_value h = go (dec_lt c 48) (dec_lt c 58) (dec_lt c 65) (dec_lt c 71) (dec_lt c 97) (dec_lt c 103)
    where
      go : Dec (c < 48) → Dec (c < 58) → Dec (c < 65) → Dec (c < 71) → Dec (c < 97) → Dec (c < 103) → hex_digit (hex_value c) ≡ upper c
      go (yes p) q r s t u = absurd (omega (arith, low_none p))
      go (no p) (yes q) r s t u = decimal_upper (omega arith) q
      go (no p) (no q) (yes r) s t u = absurd (omega (arith, middle_none (omega arith) r))
      go (no p) (no q) (no r) (yes s) t u = capital_upper (omega arith) s
      go (no p) (no q) (no r) (no s) (yes t) u = absurd (omega (arith, upper_none (omega arith) t))
      go (no p) (no q) (no r) (no s) (no t) (yes u) = letter_upper (omega arith) u
      go (no p) (no q) (no r) (no s) (no t) (no u) = absurd (omega (arith, high_none (omega arith)))

-- ---- one digit more at the end
digit_shift : (k a d : ℕ) → d < 16 → hex_digit ((16 * a + d) / 16 ^ suc k % 16) ≡ hex_digit (a / 16 ^ k % 16)
digit_shift k a d h =
    let q : (16 * a + d) / 16 ≡ a = omega arith in
    rw (pow-succ' 16 k, ← div-div-eq-div-mul (16 * a + d) 16 (16 ^ k), q)

digit_last : (a d : ℕ) → d < 16 → hex_digit ((16 * a + d) / 16 ^ 0 % 16) ≡ hex_digit d
digit_last a d h =
    let r : (16 * a + d) / 16 ^ 0 % 16 ≡ d = omega arith in
    rw r

in_snoc : (k a d : ℕ) → d < 16 → hex_in (suc k) (16 * a + d) ≡ hex_in k a ++ (hex_digit d ∷ [])
unfolding hex_in
in_snoc zero a d h = rw (digit_last a d h)
in_snoc (suc k) a d h = rw (digit_shift k a d h) (ap (λ (r : List ℕ). hex_digit (a / 16 ^ k % 16) ∷ r) (in_snoc k a d h))

-- ---- all digits
in_from : (cs : List ℕ) (n k v : ℕ) → n ≡ k + length cs → HexDigits cs → hex_in n (hex_from v cs) ≡ hex_in k v ++ map upper cs
unfolding hex_from
in_from [] n k v e p = let same : n ≡ k = omega arith in rw same (sym (append-nil (hex_in k v)))
in_from (c ∷ cs) n k v e (more h p) =
    let e' : n ≡ suc k + length cs = omega arith in
    in_from cs n (suc k) (16 * v + hex_value c) e' p
    ∙ ap (λ (r : List ℕ). r ++ map upper cs) (in_snoc k v (hex_value c) h)
    ∙ append_assoc (hex_in k v) (hex_digit (hex_value c) ∷ []) (map upper cs)
    ∙ rw (digit_value c h)

-- the number of a header's digits is written as them, in upper case
pub header_from : (cs : List ℕ) → length cs ≡ header_length → HexDigits cs → hex_header (hex_from 0 cs) ≡ map upper cs
unfolding hex_header hex_in
header_from cs e p = in_from cs 8 0 0 (omega arith) p

in_length : (k n : ℕ) → length (hex_in k n) ≡ k
unfolding hex_in
in_length zero n = refl
in_length (suc k) n = ap suc (in_length k n)

pub header_length_lem : (n : ℕ) → length (hex_header n) ≡ header_length
unfolding hex_header
header_length_lem n = in_length header_length n

-- ---- reading what was written
-- the value of a digit is the digit's, at all 16: a computed test
value_right : ℕ → ℕ → Bool
value_right d x = eqb (hex_value (hex_digit d)) d

value_digit : (d : ℕ) → d < 16 → hex_value (hex_digit d) ≡ d
unfolding value_right hex_value hex_digit
value_digit d h = eqb→eq _ _ (at value_right (replicate 16 0) tt d h)

from_in : (k v n : ℕ) → hex_from v (hex_in k n) ≡ v * 16 ^ k + n % 16 ^ k
unfolding hex_from hex_in
from_in zero v n = omega arith
from_in (suc k) v n =
    let p : 0 < 16 ^ k = one-le-pow k 16 (omega arith) in
    let d : n / 16 ^ k % 16 < 16 = omega arith in
    let m : n % 16 ^ suc k ≡ (n / 16 ^ k % 16) * 16 ^ k + n % 16 ^ k = rw (pow-succ' 16 k) (mod-mul n {m = 16} {c = 16 ^ k} (omega arith) p) in
    let up : v * 16 ^ suc k ≡ 16 * (v * 16 ^ k) = rw (pow-succ' 16 k) (mul_left_comm v 16 (16 ^ k)) in
    ap (λ (x : ℕ). hex_from (16 * v + x) (hex_in k n)) (value_digit (n / 16 ^ k % 16) d)
    ∙ from_in k (16 * v + n / 16 ^ k % 16) n
    ∙ omega (arith, add-mul (16 * v) (n / 16 ^ k % 16) (16 ^ k), mul_assoc 16 v (16 ^ k))

-- the digits of a header stand for its number
pub from_header : (n : ℕ) → n < 2 ^ 32 → hex_from 0 (hex_header n) ≡ n
unfolding hex_header
from_header n h = from_in 8 0 n ∙ omega arith

digits_in : (k n : ℕ) → HexDigits (hex_in k n)
unfolding hex_in
digits_in zero n = none
digits_in (suc k) n =
    let d : n / 16 ^ k % 16 < 16 = omega arith in
    more {c = hex_digit (n / 16 ^ k % 16)} (rw (value_digit (n / 16 ^ k % 16) d) d) (digits_in k n)

pub header_digits : (n : ℕ) → HexDigits (hex_header n)
unfolding hex_header
header_digits n = digits_in header_length n

-- ---- the digits of a header, one after the other
in_digit : (k n j : ℕ) → j < k → get_or (hex_in k n) j 0 ≡ hex_digit (n / 16 ^ (k - (j + 1)) % 16)
unfolding hex_in
in_digit zero n j h = absurd (omega (arith, h))
in_digit (suc k) n zero h = let e : k ≡ suc k - 1 = omega arith in ap (λ (i : ℕ). hex_digit (n / 16 ^ i % 16)) e
in_digit (suc k) n (suc j) h = let e : k - (j + 1) ≡ suc k - (suc j + 1) = omega arith in in_digit k n j (omega (arith, h)) ∙ ap (λ (i : ℕ). hex_digit (n / 16 ^ i % 16)) e

pub header_digit : (n j : ℕ) → j < 8 → get_or (hex_header n) j 0 ≡ hex_digit (n / 16 ^ (7 - j) % 16)
unfolding hex_header
header_digit n j h = let e : 8 - (j + 1) ≡ 7 - j = omega arith in in_digit 8 n j h ∙ ap (λ (i : ℕ). hex_digit (n / 16 ^ i % 16)) e

-- the shift to a digit, as a power of 16: a computed test
shift_right : ℕ → ℕ → Bool
shift_right k x = eqb (2 ^ (28 - 4 * k)) (16 ^ (7 - k))

shifted : (k : ℕ) → k < 8 → 2 ^ (28 - 4 * k) ≡ 16 ^ (7 - k)
unfolding shift_right
shifted k h = eqb→eq _ _ (at shift_right (replicate 8 0) tt k h)

digit_is : (n k : ℕ) → k < 8 → bit_and (n / 2 ^ (28 - 4 * k)) 15 ≡ n / 16 ^ (7 - k) % 16
digit_is n k h = and_mask (n / 2 ^ (28 - 4 * k)) 4 ∙ ap (λ (i : ℕ). n / i % 16) (shifted k h)

-- one digit more
pub digits_more : (n k : ℕ) (digits : List ℕ) (d : ℕ) → k < 8 → d ≡ hex_digit (bit_and (n / 2 ^ (28 - 4 * k)) 15)
    → (length digits ≡ 8) × ((j : ℕ) → j < k → get_or digits j 0 ≡ hex_digit (n / 16 ^ (7 - j) % 16))
    → (length (set digits k d) ≡ 8) × ((j : ℕ) → j < k + 1 → get_or (set digits k d) j 0 ≡ hex_digit (n / 16 ^ (7 - j) % 16))
digits_more n k digits d h e i = (length-set digits k d ∙ i.0, λ j l. go j l (dec_lt j k))
  where
    go : (j : ℕ) → j < k + 1 → Dec (j < k) → get_or (set digits k d) j 0 ≡ hex_digit (n / 16 ^ (7 - j) % 16)
    go j l (yes below) = get_or-set_other digits k j d 0 (λ q. omega (arith, below, q)) ∙ i.1 j below
    go j l (no other) =
        let here : j ≡ k = omega (arith, l, other) in
        rw here (get_or-set_same digits k d 0 (omega (arith, h, i.0)) ∙ e ∙ ap hex_digit (digit_is n k h))
