-- Laws of ranges of integers: what the tests of the source, on the machine's form of an integer, say of the range.
-- Assumes nothing.
use mathlib.Core.Path.{◌≡◌, refl, sym, ap, subst, ◌∙◌}
use mathlib.Core.Bool.{Bool, true, false, ◌&&◌}
use Prim.Native.Nat.{ℕ, ◌≤◌, ◌<◌, ◌^◌}
use borrow.Author.Tests.{ltb-true, ltb-false, leb-true, le-leb, lt-leb}
use lib.Dec.{T}
use lib.IntN.{ℤ, pos, negsuc, nat_abs}
use lib.Signed.{lt_z, le_z, non_neg}
use mir.Syntax.{w64}
use mir.Val.{SFits, to_z, of_z}
use mir.ValLaws.{to_z-of_z}
use Rattle.bencode.specs.Integers.{within}

-- an integer as the machine has it
abbrev pub machine : ℤ → ℤ
machine z = to_z w64 (of_z w64 z)

-- a natural number, as the machine has it
pub natural_machine : (n : ℕ) → n < 2 ^ 63 → to_z w64 n ≡ pos n
natural_machine n h = to_z-of_z w64 (pos n) (record { sfits = h })

-- a strict order is the converse of the other order
pub lt_false : (a b : ℤ) → lt_z a b ≡ true → le_z b a ≡ false
lt_false (pos a) (pos b) h = lt-leb b a (ltb-true a b h)
lt_false (pos a) (negsuc b) h = absurd (subst T (sym h) tt)
lt_false (negsuc a) (pos b) h = refl
lt_false (negsuc a) (negsuc b) h = lt-leb a b (ltb-true b a h)

pub not_lt : (a b : ℤ) → lt_z a b ≡ false → le_z b a ≡ true
not_lt (pos a) (pos b) h = le-leb b a (ltb-false a b h)
not_lt (pos a) (negsuc b) h = refl
not_lt (negsuc a) (pos b) h = absurd (subst T h tt)
not_lt (negsuc a) (negsuc b) h = le-leb a b (ltb-false b a h)

pub and_false : (t : Bool) → (t && false) ≡ false
and_false true = refl
and_false false = refl

-- a natural number, and below a bound
pub record Natural (high : ℕ) (z : ℤ) : Type 0 where
  pub natural : T (non_neg z)
  pub bound : nat_abs z ≤ high

module _ (z : ℤ) (f : SFits w64 z) where
  pub same : machine z ≡ z
  same = to_z-of_z w64 z f

  pub le_not : (k : ℤ) → lt_z (machine z) k ≡ true → le_z k z ≡ false
  le_not k h = lt_false z k (ap (λ (x : ℤ). lt_z x k) (sym same) ∙ h)

  pub le_yes : (k : ℤ) → lt_z (machine z) k ≡ false → le_z k z ≡ true
  le_yes k h = not_lt z k (ap (λ (x : ℤ). lt_z x k) (sym same) ∙ h)

  pub ge_not : (k : ℤ) → lt_z k (machine z) ≡ true → le_z z k ≡ false
  ge_not k h = lt_false k z (ap (λ (x : ℤ). lt_z k x) (sym same) ∙ h)

  pub ge_yes : (k : ℤ) → lt_z k (machine z) ≡ false → le_z z k ≡ true
  ge_yes k h = not_lt k z (ap (λ (x : ℤ). lt_z k x) (sym same) ∙ h)

  module _ (low high : ℕ) where
    pub too_low : lt_z (machine z) (pos low) ≡ true → within low high z ≡ false
    too_low h = rw (le_not (pos low) h) refl

    pub too_high : lt_z (pos high) (machine z) ≡ true → within low high z ≡ false
    too_high h = rw (ge_not (pos high) h) (and_false (le_z (pos low) z))

    module _ (l : lt_z (machine z) (pos low) ≡ false) (h : lt_z (pos high) (machine z) ≡ false) where
      pub in_range_lem : within low high z ≡ true
      in_range_lem = rw (le_yes (pos low) l, ge_yes (pos high) h) refl

      pub in_naturals : Natural high z
      in_naturals = go z (le_yes (pos low) l) (ge_yes (pos high) h)
        where
          go : (z : ℤ) → le_z (pos low) z ≡ true → le_z z (pos high) ≡ true → Natural high z
          go (pos n) a b = record { natural = tt; bound = leb-true n high b }
          go (negsuc n) a b = absurd (subst T (sym a) tt)
