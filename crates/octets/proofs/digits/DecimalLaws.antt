-- Writing a number's decimal digits and reading them are inverse.
-- Assumes nothing.
use Prim.Native.Nat.{ℕ, zero, suc, ◌+◌, ◌-◌, ◌*◌, ◌/◌, ◌%◌, ◌≤◌, ◌<◌}
use mathlib.Core.Path.{◌≡◌, refl, sym, ap, ◌∙◌}
use mathlib.Core.Bool.{Bool, true, false, cond, ◌&&◌}
use mathlib.Core.List.{List, [], ◌∷◌, ◌++◌, append_assoc, append-nil}
use native.Mathlib.Omega.{arith}
use native.Mathlib.Nat.{add-zero}
use native.Mathlib.Decide.{dec_lt}
use Prim.{Dec, yes, no}
use borrow.Author.Tests.{lt-ltb, le-ltb, le-leb, leb-true}
use lib.Dec.{ltb, leb}
use lib.ListN.{length, get_or, length-append}
use Rattle.octets.specs.declared.numerals.Decimal.{Decimal}
use Rattle.octets.specs.Numerals.{is_digit, digits, decimal_before, decimal}
use Rattle.octets.proofs.sequences.Order.{clash}

-- one digit
before_small : (k n : ℕ) (rest : List ℕ) → n < 10 → decimal_before (suc k) n rest ≡ (48 + n) ∷ rest
unfolding decimal_before
before_small k n rest h = rw (lt-ltb n 10 h) refl

-- the last digit, and those before it
before_large : (k n : ℕ) (rest : List ℕ) → 10 ≤ n → decimal_before (suc k) n rest ≡ decimal_before k (n / 10) ((48 + n % 10) ∷ rest)
unfolding decimal_before
before_large k n rest h = rw (le-ltb n 10 h) refl

-- what stands after the digits does not matter to them
before_append : (k n : ℕ) (rest : List ℕ) → decimal_before k n rest ≡ decimal_before k n [] ++ rest
unfolding decimal_before
before_append zero n rest = refl
before_append (suc k) n rest = go (ltb n 10) (before_append k (n / 10) ((48 + n % 10) ∷ rest)) (before_append k (n / 10) ((48 + n % 10) ∷ []))
  where
    go : (t : Bool) → decimal_before k (n / 10) ((48 + n % 10) ∷ rest) ≡ decimal_before k (n / 10) [] ++ ((48 + n % 10) ∷ rest) → decimal_before k (n / 10) ((48 + n % 10) ∷ []) ≡ decimal_before k (n / 10) [] ++ ((48 + n % 10) ∷ [])
        → cond t ((48 + n) ∷ rest) (decimal_before k (n / 10) ((48 + n % 10) ∷ rest)) ≡ cond t ((48 + n) ∷ []) (decimal_before k (n / 10) ((48 + n % 10) ∷ [])) ++ rest
    go true a b = refl
    go false a b = a ∙ sym (append_assoc (decimal_before k (n / 10) []) ((48 + n % 10) ∷ []) rest) ∙ ap (λ (l : List ℕ). l ++ rest) (sym b)

-- nor does the fuel where there is enough
before_fuel : (k m n : ℕ) → n < k → n < m → decimal_before k n [] ≡ decimal_before m n []
before_fuel zero m n p q = absurd (omega arith)
before_fuel (suc k) zero n p q = absurd (omega arith)
before_fuel (suc k) (suc m) n p q = go (dec_lt n 10) (λ a b. before_fuel k m (n / 10) a b)
  where
    go : Dec (n < 10) → (n / 10 < k → n / 10 < m → decimal_before k (n / 10) [] ≡ decimal_before m (n / 10) []) → decimal_before (suc k) n [] ≡ decimal_before (suc m) n []
    go (yes h) rec = before_small k n [] h ∙ sym (before_small m n [] h)
    go (no h) rec =
        before_large k n [] (omega arith) ∙ before_append k (n / 10) ((48 + n % 10) ∷ [])
        ∙ ap (λ (l : List ℕ). l ++ ((48 + n % 10) ∷ [])) (rec (omega arith) (omega arith))
        ∙ sym (before_large m n [] (omega arith) ∙ before_append m (n / 10) ((48 + n % 10) ∷ []))

pub decimal_small : (n : ℕ) → n < 10 → decimal n ≡ (48 + n) ∷ []
unfolding decimal
decimal_small n h = before_small n n [] h

pub decimal_last : (n : ℕ) → 10 ≤ n → decimal n ≡ decimal (n / 10) ++ ((48 + n % 10) ∷ [])
unfolding decimal
decimal_last n h =
    before_large n n [] h ∙ before_append n (n / 10) ((48 + n % 10) ∷ [])
    ∙ ap (λ (l : List ℕ). l ++ ((48 + n % 10) ∷ [])) (before_fuel n (suc (n / 10)) (n / 10) (omega arith) (omega arith))

-- ---- reading what was written
digits_cons : (acc at d : ℕ) (rest : List ℕ) → d < 10 → digits acc at ((48 + d) ∷ rest) ≡ digits (acc * 10 + d) (at + 1) rest
unfolding digits
digits_cons acc at d rest h =
    let e : 48 + d - 48 ≡ d = omega arith in
    rw (le-leb 48 (48 + d) (omega arith), le-leb (48 + d) 57 (omega arith), e) refl

digits_of : (k n at : ℕ) (rest : List ℕ) → n < k → digits 0 at (decimal n ++ rest) ≡ digits n (at + length (decimal n)) rest
digits_of zero n at rest h = absurd (omega arith)
digits_of (suc k) n at rest h = go (dec_lt n 10) (λ l q. digits_of k (n / 10) at l q)
  where
    go : Dec (n < 10) → ((l : List ℕ) → n / 10 < k → digits 0 at (decimal (n / 10) ++ l) ≡ digits (n / 10) (at + length (decimal (n / 10))) l) → digits 0 at (decimal n ++ rest) ≡ digits n (at + length (decimal n)) rest
    go (yes p) rec =
        let e : 0 * 10 + n ≡ n = omega arith in
        rw (decimal_small n p) (digits_cons 0 at n rest p ∙ rw e refl)
    go (no p) rec =
        let d : n % 10 < 10 = omega arith in
        let e : n / 10 * 10 + n % 10 ≡ n = omega arith in
        let l : at + length (decimal (n / 10)) + 1 ≡ at + length (decimal (n / 10) ++ ((48 + n % 10) ∷ [])) = omega (arith, length-append (decimal (n / 10)) ((48 + n % 10) ∷ [])) in
        rw (decimal_last n (omega arith), append_assoc) (rec ((48 + n % 10) ∷ rest) (omega arith) ∙ digits_cons (n / 10) (at + length (decimal (n / 10))) (n % 10) rest d ∙ rw (e, l) refl)

pub digits_decimal : (n at : ℕ) (rest : List ℕ) → digits 0 at (decimal n ++ rest) ≡ digits n (at + length (decimal n)) rest
digits_decimal n at rest = digits_of (suc n) n at rest (omega arith)

-- ---- writing what was read
-- the digits of a list after a number that is not 0
pub record Spelt (acc at : ℕ) (l : List ℕ) : Type 0 where
  pub shown : List ℕ
  pub rest : List ℕ
  pub splits : l ≡ shown ++ rest
  pub ends : (digits acc at l).end ≡ at + length shown
  pub spells : decimal (digits acc at l).number ≡ decimal acc ++ shown

pub decimal_next : (acc d : ℕ) → 1 ≤ acc → d < 10 → decimal (acc * 10 + d) ≡ decimal acc ++ ((48 + d) ∷ [])
decimal_next acc d h q =
    let a : (acc * 10 + d) / 10 ≡ acc = omega arith in
    let b : (acc * 10 + d) % 10 ≡ d = omega arith in
    decimal_last (acc * 10 + d) (omega arith) ∙ rw (a, b) refl

pub digits_is : (acc at b : ℕ) (bs : List ℕ) → is_digit b ≡ true → digits acc at (b ∷ bs) ≡ digits (acc * 10 + (b - 48)) (at + 1) bs
unfolding digits
digits_is acc at b bs h = rw h refl

digits_is_not : (acc at b : ℕ) (bs : List ℕ) → is_digit b ≡ false → digits acc at (b ∷ bs) ≡ record { end = at; number = acc }
unfolding digits
digits_is_not acc at b bs h = rw h refl

pub digit_bounds : (b : ℕ) → is_digit b ≡ true → (48 ≤ b) × (b ≤ 57)
digit_bounds b h = go (leb 48 b) refl (leb b 57) refl h
  where
    go : (t : Bool) → leb 48 b ≡ t → (u : Bool) → leb b 57 ≡ u → t && u ≡ true → (48 ≤ b) × (b ≤ 57)
    go true p true q h = (leb-true 48 b p, leb-true b 57 q)
    go true p false q h = clash false h refl
    go false p u q h = clash false h refl

pub spelt : (acc at : ℕ) (l : List ℕ) → 1 ≤ acc → Spelt acc at l
spelt acc at [] h = unfold digits in record { shown = []; rest = []; splits = refl; ends = omega arith; spells = sym (append-nil (decimal acc)) }
spelt acc at (b ∷ bs) h = go (is_digit b) refl (spelt (acc * 10 + (b - 48)) (at + 1) bs (omega arith))
  where
    go : (t : Bool) → is_digit b ≡ t → Spelt (acc * 10 + (b - 48)) (at + 1) bs → Spelt acc at (b ∷ bs)
    go true p r =
        let w = digit_bounds b p in
        let c : 48 + (b - 48) ≡ b = omega arith in
        let n : at + 1 + length r.shown ≡ at + length (b ∷ r.shown) = omega arith in
        record {
          shown = b ∷ r.shown;
          rest = r.rest;
          splits = ap (λ (l : List ℕ). b ∷ l) r.splits;
          ends = ap (λ (d : Decimal). d.end) (digits_is acc at b bs p) ∙ r.ends ∙ n;
          spells =
              ap (λ (d : Decimal). decimal d.number) (digits_is acc at b bs p) ∙ r.spells
              ∙ ap (λ (l : List ℕ). l ++ r.shown) (decimal_next acc (b - 48) h (omega arith) ∙ ap (λ (k : ℕ). decimal acc ++ (k ∷ [])) c)
              ∙ append_assoc (decimal acc) (b ∷ []) r.shown;
        }
    go false p r = record {
      shown = [];
      rest = b ∷ bs;
      splits = refl;
      ends = ap (λ (d : Decimal). d.end) (digits_is_not acc at b bs p) ∙ sym (add-zero at);
      spells = ap (λ (d : Decimal). decimal d.number) (digits_is_not acc at b bs p) ∙ sym (append-nil (decimal acc));
    }

-- the first digit is 0 only of 0
pub record First (n b : ℕ) : Type 0 where
  pub low : 48 ≤ b
  pub high : b ≤ 57
  pub positive : 1 ≤ n → 49 ≤ b

first_of : (k n : ℕ) (rest : List ℕ) → n < k → First n (get_or (decimal n ++ rest) 0 0)
first_of zero n rest h = absurd (omega arith)
first_of (suc k) n rest h = go (dec_lt n 10) (λ l q. first_of k (n / 10) l q)
  where
    go : Dec (n < 10) → ((l : List ℕ) → n / 10 < k → First (n / 10) (get_or (decimal (n / 10) ++ l) 0 0)) → First n (get_or (decimal n ++ rest) 0 0)
    go (yes p) rec = rw (decimal_small n p) (record { low = omega arith; high = omega arith; positive = λ q. omega arith })
    go (no p) rec =
        let f = rec ((48 + n % 10) ∷ rest) (omega arith) in
        let big : 49 ≤ get_or (decimal (n / 10) ++ ((48 + n % 10) ∷ rest)) 0 0 = f.positive (omega arith) in
        rw (decimal_last n (omega arith), append_assoc) (record { low = f.low; high = f.high; positive = λ q. big })

pub first : (n : ℕ) (rest : List ℕ) → First n (get_or (decimal n ++ rest) 0 0)
first n rest = first_of (suc n) n rest (omega arith)
