-- Laws of the table of classes: what its one test says of each entry, and what a class says of a byte.
-- Assumes nothing.
use Prim.Native.Nat.{ℕ, zero, suc, ◌+◌, ◌≤◌, ◌<◌}
use mathlib.Core.Path.{◌≡◌, refl, sym, ap, ◌∙◌}
use mathlib.Core.Bool.{Bool, true, false, cond, ◌&&◌, ◌||◌}
use mathlib.Core.List.{List, [], ◌∷◌}
use native.Mathlib.Nat.{add-zero, zero-add}
use native.Mathlib.Omega.{arith}
use borrow.Author.Tests.{eqb-true, eq-eqb, ne_eqb, leb-true}
use lib.Dec.{eqb, leb}
use lib.ListN.{get_or}
use Rattle.octets.specs.Numerals.{is_digit}
use Rattle.octets.proofs.sequences.Order.{clash}
use Rattle.bencode.specs.Classes.{is_sign, class_of, are_classes_from, is_table}

both : (a b : Bool) → a && b ≡ true → (a ≡ true) × (b ≡ true)
both true b e = (refl, e)
both false b e = clash false e refl

from : (t : List ℕ) (k : ℕ) → are_classes_from k t ≡ true → (i : ℕ) → k + i < 256 → get_or t i 0 ≡ class_of (k + i)
unfolding are_classes_from
from [] k e i h = absurd (omega (arith, eqb-true k 256 e))
from (c ∷ cs) k e zero h = eqb-true c (class_of k) (both (eqb c (class_of k)) (are_classes_from (k + 1) cs) e).0 ∙ ap class_of (sym (add-zero k))
from (c ∷ cs) k e (suc i) h =
    from cs (k + 1) (both (eqb c (class_of k)) (are_classes_from (k + 1) cs) e).1 i (omega (arith, h))
    ∙ ap class_of (let q : k + 1 + i ≡ k + suc i = omega arith in q)

-- the test of the table, once and for all, is the rule at each entry
pub class_right : (t : List ℕ) → is_table t ≡ true → (b : ℕ) → b < 256 → get_or t b 0 ≡ class_of b
unfolding is_table
class_right t e b h = from t 0 e b (omega (arith, h)) ∙ ap class_of (zero-add b)

-- ---- a sign has a class of its own
either : {P : Type 0} (a b : Bool) → a || b ≡ true → (a ≡ true → P) → (b ≡ true → P) → P
either true b e f g = f refl
either false b e f g = g e

sign_no_digit : (c : ℕ) → is_sign c ≡ true → is_digit c ≡ false
sign_no_digit c s =
    either (eqb c 45) (eqb c 58 || (eqb c 100 || (eqb c 101 || (eqb c 105 || eqb c 108)))) s (one 45 refl) (λ t.
    either (eqb c 58) (eqb c 100 || (eqb c 101 || (eqb c 105 || eqb c 108))) t (one 58 refl) (λ u.
    either (eqb c 100) (eqb c 101 || (eqb c 105 || eqb c 108)) u (one 100 refl) (λ v.
    either (eqb c 101) (eqb c 105 || eqb c 108) v (one 101 refl) (λ w.
    either (eqb c 105) (eqb c 108) w (one 105 refl) (one 108 refl)))))
  where
    one : (k : ℕ) → is_digit k ≡ false → eqb c k ≡ true → is_digit c ≡ false
    one k h e = ap is_digit (eqb-true c k e) ∙ h

-- a byte is a sign exactly if its class is
pub sign_class : (c : ℕ) → is_sign c ≡ true → (b : ℕ) → eqb (class_of b) c ≡ eqb b c
sign_class c s b = go (is_digit b) refl (is_sign b) refl
  where
    no : (k : ℕ) → is_sign k ≡ false → k ≡ c → ⊥
    no k h e = clash (is_sign c) s (ap is_sign (sym e) ∙ h)

    go : (t : Bool) → is_digit b ≡ t → (u : Bool) → is_sign b ≡ u → eqb (cond t 48 (cond u b 46)) c ≡ eqb b c
    go true d u g = ne_eqb 48 c (no 48 refl) ∙ sym (ne_eqb b c (λ e. clash (is_digit b) d (ap is_digit e ∙ sign_no_digit c s)))
    go false d true g = refl
    go false d false g = ne_eqb 46 c (no 46 refl) ∙ sym (ne_eqb b c (no b g))

pub class_is : (c : ℕ) → is_sign c ≡ true → (b : ℕ) → class_of b ≡ c → b ≡ c
class_is c s b e = eqb-true b c (sym (sign_class c s b) ∙ eq-eqb (class_of b) c e)

pub class_is_not : (c : ℕ) → is_sign c ≡ true → (b : ℕ) → (class_of b ≡ c → ⊥) → b ≡ c → ⊥
class_is_not c s b h e = h (eqb-true (class_of b) c (sign_class c s b ∙ eq-eqb b c e))

-- ---- the digits have one class, which no other byte has
digit_class : (b : ℕ) → eqb (class_of b) 48 ≡ is_digit b
digit_class b = go (is_digit b) (is_sign b) refl
  where
    no : is_sign b ≡ true → b ≡ 48 → ⊥
    no g e = clash (is_sign b) g (ap is_sign e)

    go : (t : Bool) (u : Bool) → is_sign b ≡ u → eqb (cond t 48 (cond u b 46)) 48 ≡ t
    go true u g = refl
    go false true g = ne_eqb b 48 (no g)
    go false false g = refl

pub digit_is : (b : ℕ) → class_of b ≡ 48 → (48 ≤ b) × (b ≤ 57)
digit_is b e = let d = both (leb 48 b) (leb b 57) (sym (digit_class b) ∙ eq-eqb (class_of b) 48 e) in (leb-true 48 b d.0, leb-true b 57 d.1)

pub digit_is_not : (b : ℕ) → (class_of b ≡ 48 → ⊥) → is_digit b ≡ false
digit_is_not b h = sym (digit_class b) ∙ ne_eqb (class_of b) 48 h
