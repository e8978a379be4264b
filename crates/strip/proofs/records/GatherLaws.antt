-- One watch record more, one law for each way; and that the desk opens with the records gathered as with the list of all
-- that came.
-- Assumes nothing.
use Prim.Native.Nat.{ℕ, zero, suc, ◌+◌, ◌≤◌, ◌<◌}
use mathlib.Core.Path.{◌≡◌, refl, sym, ap, ◌∙◌}
use mathlib.Core.Bool.{Bool, true, false}
use mathlib.Core.List.{List, [], ◌∷◌, ◌++◌}
use native.Mathlib.Omega.{arith}
use native.Mathlib.Nat.{not-suc-le-zero, le_of_suc-le-suc}
use borrow.Author.Tests.{lt-ltb, le-ltb, ltb-true, ltb-false}
use lib.Dec.{ltb}
use lib.IntN.{ℤ}
use lib.ListN.{length, length-append, set, take}
use Rattle.desk.specs.declared.watch.Watch.{Watch}
use Rattle.desk.specs.Watch.{places, padded}
use Rattle.desk.specs.Opening.{opening}
use Rattle.desk.proofs.openings.OpeningLaws.{opening_over, opening_copied}
use Rattle.strip.specs.declared.gather.Gathered.{Gathered}
use Rattle.strip.specs.Gather.{nothing_gathered, gathered}

module _ (g : Gathered) (w : Watch) where
  pub gather_over : 32 < g.count → g ≡ gathered g w
  unfolding gathered
  gather_over h = rw (lt-ltb 32 g.count h) refl

  module _ (h : g.count ≤ 32) where
    pub gather_placed : g.count < 32 → record { watch = set g.watch g.count w; count = g.count + 1 } ≡ gathered g w
    unfolding gathered
    gather_placed l = rw (le-ltb 32 g.count h, lt-ltb g.count 32 l) refl

    pub gather_counted : 32 ≤ g.count → record { watch = g.watch; count = g.count + 1 } ≡ gathered g w
    unfolding gathered
    gather_counted l = rw (le-ltb 32 g.count h, le-ltb g.count 32 l) refl

-- ---- the records gathered, against the list of all that came
pub data Gathers (g : Gathered) (ws : List Watch) : Type 0 where
  all : length ws ≤ 32 → g ≡ record { watch = padded ws; count = length ws } → Gathers g ws
  too_many : 32 < length ws → 32 < g.count → Gathers g ws

pub gathers_none : Gathers nothing_gathered []
unfolding nothing_gathered
gathers_none = all (omega arith) refl

-- one record more, stored after the others
places_more : (n : ℕ) (ws : List Watch) (w : Watch) → length ws < n → set (places n ws) (length ws) w ≡ places n (ws ++ (w ∷ []))
unfolding places
places_more zero ws w h = absurd (not-suc-le-zero h)
places_more (suc n) [] w h = refl
places_more (suc n) (v ∷ ws) w h = ap (λ (l : List Watch). v ∷ l) (places_more n ws w (le_of_suc-le-suc h))

length_more : (ws : List Watch) (w : Watch) → length (ws ++ (w ∷ [])) ≡ length ws + 1
length_more ws w = length-append ws (w ∷ [])

pub gathers_more : (g : Gathered) (ws : List Watch) (w : Watch) → Gathers g ws → Gathers (gathered g w) (ws ++ (w ∷ []))
gathers_more g ws w (too_many l c) = too_many (omega (arith, l, length_more ws w)) (rw (← gather_over g w c) c)
gathers_more g ws w (all h e) = by_test (ltb (length ws) 32) refl
  where
    full : Gathered
    full = record { watch = padded ws; count = length ws }

    by_test : (t : Bool) → ltb (length ws) 32 ≡ t → Gathers (gathered g w) (ws ++ (w ∷ []))
    by_test true t =
        let l : length ws < 32 = ltb-true (length ws) 32 t in
        let m = length_more ws w in
        all (omega (arith, l, m)) (ap (λ (x : Gathered). gathered x w) e ∙ sym (gather_placed full w h l) ∙ rw (places_more 32 ws w l, ← m) refl)
    by_test false t =
        let l : 32 ≤ length ws = ltb-false (length ws) 32 t in
        let counted : (gathered g w).count ≡ length ws + 1 = ap (λ (x : Gathered). (gathered x w).count) e ∙ sym (ap (λ (x : Gathered). x.count) (gather_counted full w h l)) in
        too_many (omega (arith, l, length_more ws w)) (omega (arith, l, counted))

-- the desk opens alike
pub gathers_opening : (g : Gathered) (ws : List Watch) (d u : ℤ) → Gathers g ws → opening g.count (take g.count g.watch) d u ≡ opening (length ws) ws d u
gathers_opening g ws d u (all h e) = ap (λ (x : Gathered). opening x.count (take x.count x.watch) d u) e ∙ opening_copied ws d u
gathers_opening g ws d u (too_many l c) = opening_over g.count (take g.count g.watch) d u c ∙ sym (opening_over (length ws) ws d u l)
