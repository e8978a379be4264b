-- Laws of `repeat`: where each step ends further right, there are steps enough, so that a step may be taken off the front.
-- Assumes nothing.
use Prim.Native.Nat.{ℕ, zero, suc, ◌+◌, ◌-◌, ◌<◌}
use mathlib.Core.Path.{◌≡◌, refl, ap, ◌∙◌}
use mathlib.Core.Bool.{Bool, true, false, cond}
use mathlib.Core.List.{List}
use native.Mathlib.Omega.{arith}
use borrow.Author.Tests.{eq-eqb, ne_eqb}
use lib.Dec.{eqb}
use lib.ListN.{length}
use Rattle.bencode.specs.declared.fault.Fault.{Fault}
use Rattle.octets.specs.Bytes.{byte_at}
use Rattle.bencode.specs.Loop.{LoopStep, next, done, after_step, repeat, repeat_from, item_step, items_from, Past, Onward}
use Rattle.bencode.specs.Fault.{Walk}
use Rattle.std.specs.Prelude.{Ok, Err}

-- the fuel does not matter where it is more than the bytes left
repeat_enough : {X A : Type 0} (s : List ℕ) (step : ℕ → X → LoopStep X A) → Onward s step → (a b : A) (n m at : ℕ) (x : X) → length s - at < n → length s - at < m → repeat step a n at x ≡ repeat step b m at x
unfolding repeat
repeat_enough s step h a b zero m at x p q = absurd (omega arith)
repeat_enough s step h a b (suc n) zero at x p q = absurd (omega arith)
repeat_enough {X} {A} s step h a b (suc n) (suc m) at x p q = go (step at x) refl (λ to y u v. repeat_enough s step h a b n m to y u v)
  where
    go : (t : LoopStep X A) → step at x ≡ t → ((to : ℕ) (y : X) → length s - to < n → length s - to < m → repeat step a n to y ≡ repeat step b m to y) → after_step t (λ to y. repeat step a n to y) ≡ after_step t (λ to y. repeat step b m to y)
    go (next to y) e rec = rec to y (omega (arith, h at x to y e)) (omega (arith, h at x to y e))
    go (done r) e rec = refl

-- one step, and then the steps from where it ended. The answer for no end, `d`, may go by the offset
pub repeat_step : {X A : Type 0} (s : List ℕ) (step : ℕ → X → LoopStep X A) → Onward s step → (d : ℕ → A) (at : ℕ) (x : X) → repeat_from s step (d at) at x ≡ after_step (step at x) (λ to y. repeat_from s step (d to) to y)
unfolding repeat
repeat_step {X} {A} s step h d at x = go (step at x) refl
  where
    go : (t : LoopStep X A) → step at x ≡ t → after_step t (λ to y. repeat step (d at) (length s - at) to y) ≡ after_step t (λ to y. repeat_from s step (d to) to y)
    go (next to y) e = repeat_enough s step h (d at) (d to) (length s - at) (suc (length s - to)) to y (omega (arith, h at x to y e)) (omega arith)
    go (done r) e = refl

-- a walk by steps ends further right where each last step does
pub repeat_end : {X : Type 0} (s : List ℕ) (step : ℕ → X → LoopStep X Walk) → Onward s step → ((at : ℕ) (x : X) (e : ℕ) → step at x ≡ done (Ok e) → Past s at e) → (f : Fault) (n at : ℕ) (x : X) (e : ℕ) → repeat step (Err f) n at x ≡ Ok e → Past s at e
unfolding repeat
repeat_end s step h stops f zero at x e p = let z : ◌≡◌ {A = ℕ} 0 1 = cc in absurd (omega arith)
repeat_end {X} s step h stops f (suc n) at x e p = go (step at x) refl p (λ to y q. repeat_end s step h stops f n to y e q)
  where
    go : (t : LoopStep X Walk) → step at x ≡ t → after_step t (λ to y. repeat step (Err f) n to y) ≡ Ok e → ((to : ℕ) (y : X) → repeat step (Err f) n to y ≡ Ok e → Past s to e) → Past s at e
    go (next to y) q p rec = let r = rec to y p in omega (arith, h at x to y q)
    go (done r) q p rec = stops at x e (q ∙ ap done p)

-- ---- over the items of a list: one law for each way of a step
module _ {X A : Type 0} (s : List ℕ) (end : ℕ → X → A) (item : ℕ → X → LoopStep X A) (onward : Onward s item) (none : ℕ → A) (at : ℕ) (x : X) where
  items_step : items_from s end item none at x ≡ after_step (item_step s end item at x) (λ to y. items_from s end item none to y)
  items_step = repeat_step s (item_step s end item) (λ k y to z e. go k y to z (eqb (byte_at s k) 101) e) none at x
    where
      go : (k : ℕ) (y : X) (to : ℕ) (z : X) (t : Bool) → cond t (done (end (k + 1) y)) (item k y) ≡ next to z → Past s k to
      go k y to z true e = let n : ◌≡◌ {A = ℕ} 0 1 = cc in absurd (omega arith)
      go k y to z false e = onward k y to z e

  pub items_end_lem : byte_at s at ≡ 101 → end (at + 1) x ≡ items_from s end item none at x
  items_end_lem b = rw (items_step, eq-eqb (byte_at s at) 101 b) refl

  module _ (b : byte_at s at ≡ 101 → ⊥) where
    pub items_done : (a : A) → item at x ≡ done a → a ≡ items_from s end item none at x
    items_done a e = rw (items_step, ne_eqb (byte_at s at) 101 b, e) refl

    pub items_next : (to : ℕ) (y : X) → item at x ≡ next to y → items_from s end item none to y ≡ items_from s end item none at x
    items_next to y e = rw (items_step, ne_eqb (byte_at s at) 101 b, e) refl
