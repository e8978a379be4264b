-- Laws of the equality test of byte strings, by offsets.
-- Assumes nothing.
use Prim.Native.Nat.{ℕ, suc, ◌+◌, ◌≤◌, ◌<◌}
use mathlib.Core.Path.{◌≡◌, refl, ap}
use mathlib.Core.Bool.{Bool, true, false, ◌&&◌}
use mathlib.Core.List.{List, [], ◌∷◌}
use native.Mathlib.Numerals.{add-one}
use borrow.Author.Tests.{eq-eqb, ne_eqb}
use lib.Dec.{eqb}
use lib.ListN.{length, get_or, drop, drop_of_length-le}
use lib.Seq.{drop-cons}
use Rattle.octets.specs.Bytes.{same}

-- strings of different lengths are not equal
pub same_lengths : (x y : List ℕ) → (length x ≡ length y → ⊥) → same x y ≡ false
unfolding same
same_lengths [] [] h = absurd (h refl)
same_lengths [] (b ∷ ys) h = refl
same_lengths (a ∷ xs) [] h = refl
same_lengths (a ∷ xs) (b ∷ ys) h = go (eqb a b) (same_lengths xs ys (λ e. h (ap suc e)))
  where
    go : (t : Bool) → same xs ys ≡ false → t && same xs ys ≡ false
    go true q = q
    go false q = refl

module _ (x y : List ℕ) (i : ℕ) where
  pub same_over : length x ≤ i → length y ≤ i → same (drop i x) (drop i y) ≡ true
  unfolding same
  same_over p q = rw (drop_of_length-le x {i = i} p, drop_of_length-le y {i = i} q) refl

  module _ (p : i < length x) (q : i < length y) where
    pub same_differs : (get_or x i 0 ≡ get_or y i 0 → ⊥) → same (drop i x) (drop i y) ≡ false
    unfolding same
    same_differs h = rw (drop-cons x i 0 p, drop-cons y i 0 q, ne_eqb (get_or x i 0) (get_or y i 0) h) refl

    pub same_goes_on : get_or x i 0 ≡ get_or y i 0 → same (drop (i + 1) x) (drop (i + 1) y) ≡ same (drop i x) (drop i y)
    unfolding same
    same_goes_on h = rw (add-one i, drop-cons x i 0 p, drop-cons y i 0 q, eq-eqb (get_or x i 0) (get_or y i 0) h) refl
