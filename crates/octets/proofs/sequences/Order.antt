-- Laws of the order of byte strings.
-- Assumes nothing.
use Prim.Native.Nat.{ℕ, ◌+◌, ◌≤◌, ◌<◌}
use mathlib.Core.Path.{◌≡◌, refl, sym, ap, ap₂, ◌∙◌}
use mathlib.Core.Bool.{Bool, true, false, cond, ◌&&◌}
use mathlib.Core.List.{List, [], ◌∷◌}
use native.Mathlib.Omega.{arith}
use native.Mathlib.Numerals.{add-one}
use native.Mathlib.Decide.{dec_lt}
use borrow.Author.Tests.{eqb-true, eq-eqb, ne_eqb, lt-ltb, le-ltb}
use lib.Dec.{eqb, ltb}
use lib.ListN.{length, get_or, drop, drop_of_length-le}
use lib.Seq.{drop-cons}
use Rattle.octets.specs.Bytes.{same, less}

pub clash : {P : Type 0} (t : Bool) → t ≡ true → t ≡ false → P
clash t p q = let z : true ≡ false = cc in absurd (omega (arith, ap (λ (u : Bool). cond {A = ℕ} u 1 0) z))

-- ---- equality
pub same_eq : (x y : List ℕ) → same x y ≡ true → x ≡ y
unfolding same
same_eq [] [] e = refl
same_eq [] (b ∷ ys) e = clash false e refl
same_eq (a ∷ xs) [] e = clash false e refl
same_eq (a ∷ xs) (b ∷ ys) e = go (eqb a b) refl (same xs ys) refl e (λ q. same_eq xs ys q)
  where
    go : (t : Bool) → eqb a b ≡ t → (u : Bool) → same xs ys ≡ u → t && u ≡ true → (same xs ys ≡ true → xs ≡ ys) → a ∷ xs ≡ b ∷ ys
    go false p u q e rec = clash false e refl
    go true p false q e rec = clash false e refl
    go true p true q e rec = ap₂ (λ (k : ℕ) (l : List ℕ). k ∷ l) (eqb-true a b p) (rec q)

pub same_refl : (x : List ℕ) → same x x ≡ true
unfolding same
same_refl [] = refl
same_refl (a ∷ xs) = rw (eq-eqb a a refl, same_refl xs) refl

-- ---- the order, at strings that are not empty
less_lt : (a b : ℕ) (xs ys : List ℕ) → a < b → less (a ∷ xs) (b ∷ ys) ≡ true
unfolding less
less_lt a b xs ys h = rw (ne_eqb a b (omega arith), lt-ltb a b h) refl

less_gt : (a b : ℕ) (xs ys : List ℕ) → b < a → less (a ∷ xs) (b ∷ ys) ≡ false
unfolding less
less_gt a b xs ys h = rw (ne_eqb a b (omega arith), le-ltb a b (omega arith)) refl

less_eq : (a b : ℕ) (xs ys : List ℕ) → a ≡ b → less (a ∷ xs) (b ∷ ys) ≡ less xs ys
unfolding less
less_eq a b xs ys e = rw (eq-eqb a b e) refl

-- one of the three ways in which two numbers stand to each other
by_order : {P : Type 0} (a b : ℕ) → (a < b → P) → (a ≡ b → P) → (b < a → P) → P
by_order {P} a b lt eq gt = elim (dec_lt a b) [ yes p ↦ lt p | no q ↦ elim (dec_lt b a) [ yes r ↦ gt r | no u ↦ eq (omega arith) ] ]

pub less_irrefl : (x : List ℕ) → less x x ≡ false
less_irrefl [] = unfold less in refl
less_irrefl (a ∷ xs) = less_eq a a xs xs refl ∙ less_irrefl xs

pub less_trans : (x y z : List ℕ) → less x y ≡ true → less y z ≡ true → less x z ≡ true
less_trans x [] z p q = clash (less x []) p (unfold less in refl)
less_trans x (b ∷ ys) [] p q = clash (less (b ∷ ys) []) q (unfold less in refl)
less_trans [] (b ∷ ys) (c ∷ zs) p q = unfold less in refl
less_trans (a ∷ xs) (b ∷ ys) (c ∷ zs) p q =
    by_order a b
    (λ ab. by_order b c
    (λ bc. less_lt a c xs zs (omega arith))
    (λ bc. less_lt a c xs zs (omega arith))
    (λ cb. clash (less (b ∷ ys) (c ∷ zs)) q (less_gt b c ys zs cb)))
    (λ ab. by_order b c
    (λ bc. less_lt a c xs zs (omega arith))
    (λ bc. less_eq a c xs zs (ab ∙ bc) ∙ less_trans xs ys zs (sym (less_eq a b xs ys ab) ∙ p) (sym (less_eq b c ys zs bc) ∙ q))
    (λ cb. clash (less (b ∷ ys) (c ∷ zs)) q (less_gt b c ys zs cb)))
    (λ ba. clash (less (a ∷ xs) (b ∷ ys)) p (less_gt a b xs ys ba))

pub less_total : (x y : List ℕ) → less x y ≡ false → less y x ≡ false → x ≡ y
less_total [] [] p q = refl
less_total [] (b ∷ ys) p q = clash (less [] (b ∷ ys)) (unfold less in refl) p
less_total (a ∷ xs) [] p q = clash (less [] (a ∷ xs)) (unfold less in refl) q
less_total (a ∷ xs) (b ∷ ys) p q =
    by_order a b
    (λ ab. clash (less (a ∷ xs) (b ∷ ys)) (less_lt a b xs ys ab) p)
    (λ ab. ap₂ (λ (k : ℕ) (l : List ℕ). k ∷ l) ab (less_total xs ys (sym (less_eq a b xs ys ab) ∙ p) (sym (less_eq b a ys xs (sym ab)) ∙ q)))
    (λ ba. clash (less (b ∷ ys) (a ∷ xs)) (less_lt b a ys xs ba) q)

pub less_asym : (x y : List ℕ) → less x y ≡ true → less y x ≡ false
less_asym x y p = go (less y x) refl
  where
    go : (t : Bool) → less y x ≡ t → t ≡ false
    go true q = clash (less x x) (less_trans x y x p q) (less_irrefl x)
    go false q = refl

-- ---- the order by offsets
module _ (x y : List ℕ) (i : ℕ) where
  pub less_over : length y ≤ i → less (drop i x) (drop i y) ≡ false
  unfolding less
  less_over q = rw (drop_of_length-le y {i = i} q) refl

  module _ (q : i < length y) where
    pub less_prefix : length x ≤ i → less (drop i x) (drop i y) ≡ true
    unfolding less
    less_prefix p = rw (drop_of_length-le x {i = i} p, drop-cons y i 0 q) refl

    module _ (p : i < length x) where
      pub less_differs : (get_or x i 0 ≡ get_or y i 0 → ⊥) → less (drop i x) (drop i y) ≡ ltb (get_or x i 0) (get_or y i 0)
      unfolding less
      less_differs h = rw (drop-cons x i 0 p, drop-cons y i 0 q, ne_eqb (get_or x i 0) (get_or y i 0) h) refl

      pub less_goes_on : get_or x i 0 ≡ get_or y i 0 → less (drop (i + 1) x) (drop (i + 1) y) ≡ less (drop i x) (drop i y)
      unfolding less
      less_goes_on h = rw (add-one i, drop-cons x i 0 p, drop-cons y i 0 q, eq-eqb (get_or x i 0) (get_or y i 0) h) refl
