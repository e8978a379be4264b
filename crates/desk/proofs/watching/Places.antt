-- The desk's places: how a list of records lies in them.
-- Assumes nothing.
use mathlib.Core.Path.{◌≡◌, refl, sym, ap, ◌∙◌}
use Prim.Native.Nat.{ℕ, zero, suc, ◌<◌, ◌≤◌, min}
use native.Mathlib.Omega.{arith}
use native.Mathlib.Nat.{not-suc-le-zero, le_of_suc-le-suc, suc-min-suc, zero-min}
use mathlib.Core.Bool.{true}
use mathlib.Core.List.{List, [], ◌∷◌, ◌++◌}
use lib.ListN.{length, get_or, set, take, drop, replicate}
use lib.Seq.{length-take-le}
use Rattle.desk.specs.Watch.{empty, places, unused}
use Rattle.desk.specs.declared.watch.Watch.{Watch}

-- with no record every place is empty
pub places_none : (n : ℕ) → places n [] ≡ replicate n empty
unfolding places
places_none zero = refl
places_none (suc n) = ap (λ (l : List Watch). empty ∷ l) (places_none n)

-- the records, and what is left of as many empty places
pub places_after : (n : ℕ) (ws : List Watch) → length ws ≤ n → ws ++ drop (length ws) (replicate n empty) ≡ places n ws
unfolding places
places_after n [] h = sym (places_none n)
places_after zero (w ∷ ws) h = absurd (not-suc-le-zero h)
places_after (suc n) (w ∷ ws) h = ap (λ (k : List Watch). w ∷ k) (places_after n ws (le_of_suc-le-suc h))

-- the first i records stored, record i goes to place i
pub places_set : (n i : ℕ) (l : List Watch) → i < n → i < length l → set (places n (take i l)) i (get_or l i empty) ≡ places n (take (suc i) l)
unfolding places
places_set zero i l h g = absurd (not-suc-le-zero h)
places_set (suc n) i [] h g = absurd (not-suc-le-zero g)
places_set (suc n) zero (w ∷ l) h g = refl
places_set (suc n) (suc i) (w ∷ l) h g = ap (λ (k : List Watch). w ∷ k) (places_set n i l (le_of_suc-le-suc h) (le_of_suc-le-suc g))

-- no more records than places count
pub places_min : (n : ℕ) (l : List Watch) → places n (take (min (length l) n) l) ≡ places n l
unfolding places
places_min zero l = refl
places_min (suc n) [] = rw zero-min
places_min (suc n) (w ∷ l) = rw suc-min-suc (ap (λ (k : List Watch). w ∷ k) (places_min n l))

-- the records that there are places for, and what is left of as many empty places
pub places_cut : (n k : ℕ) (l : List Watch) → k ≡ min (length l) n → take k l ++ drop k (replicate n empty) ≡ places n l
places_cut n k l e =
    let long : length (take k l) ≡ k = length-take-le k l (omega (arith, e)) in
    ap (λ i. take k l ++ drop i (replicate n empty)) (sym long) ∙ places_after n (take k l) (omega (arith, long, e)) ∙ ap (λ i. places n (take i l)) e ∙ places_min n l

-- the records are read back from the places
pub take_places : (n : ℕ) (ws : List Watch) → length ws ≤ n → take (length ws) (places n ws) ≡ ws
unfolding places
take_places n [] h = refl
take_places zero (w ∷ ws) h = absurd (not-suc-le-zero h)
take_places (suc n) (w ∷ ws) h = ap (λ (k : List Watch). w ∷ k) (take_places n ws (le_of_suc-le-suc h))

-- the places after the records are unused
pub unused_places : (n : ℕ) (ws : List Watch) → length ws ≤ n → unused (drop (length ws) (places n ws)) ≡ true
unfolding places unused
unused_places zero [] h = refl
unused_places (suc n) [] h = unused_places n [] (omega arith)
unused_places zero (w ∷ ws) h = absurd (not-suc-le-zero h)
unused_places (suc n) (w ∷ ws) h = unused_places n ws (le_of_suc-le-suc h)
