-- Laws of ranges of versions, one for each way through their code.
-- Assumes nothing.
use Prim.Native.Nat.{ℕ, ◌^◌, ◌≤◌, ◌<◌}
use mathlib.Core.Path.{◌≡◌, refl, sym, ap, subst, ◌∙◌}
use mathlib.Core.Bool.{Bool, true, false, cond, ◌&&◌}
use native.Mathlib.Omega.{arith}
use borrow.Author.Tests.{leb-true, le-leb, lt-leb}
use lib.Dec.{T, leb}
use lib.IntN.{ℤ, pos, negsuc}
use lib.Signed.{lt_z, le_z}
use mir.Syntax.{w64}
use mir.Val.{SFits}
use Rattle.bencode.specs.Integers.{within}
use Rattle.bencode.proofs.scalars.Ranges.{machine, natural_machine, same, and_false, not_lt, le_yes, ge_yes, Natural}
use Rattle.ipc.specs.Ids.{number_in}
use Rattle.ipc.proofs.formats.IdLaws.{Numbered, number_some, number_none}
use Rattle.ipc.specs.declared.versions.Versions.{Versions}
use Rattle.ipc.specs.Versions.{largest_version, range_of, IsRange}
use Rattle.std.specs.Prelude.{Option, Some, None}

-- ---- each way through the constructor
-- no range, where its conditions cannot all hold
no_range : (m n : ℕ) → (1 ≤ m → m ≤ n → n ≤ largest_version → ⊥) → range_of (pos m) (pos n) ≡ None
unfolding range_of
no_range m n h = go (leb 1 m) refl (leb m n) refl (leb n largest_version) refl
  where
    go : (t : Bool) → leb 1 m ≡ t → (u : Bool) → leb m n ≡ u → (w : Bool) → leb n largest_version ≡ w → cond {A = Option Versions} (t && (u && w)) (Some (record { min = m; max = n })) None ≡ None
    go true p true q true r = absurd (h (leb-true 1 m p) (leb-true m n q) (leb-true n largest_version r))
    go true p true q false r = refl
    go true p false q w r = refl
    go false p u q w r = refl

-- a number that is out of range, as a fact
out : (n : ℕ) → within 1 largest_version (pos n) ≡ false → 1 ≤ n → n ≤ largest_version → ⊥
out n h l m = subst T (h ∙ refl) (rw (le-leb 1 n l, le-leb n largest_version m) tt)

no_first : (a b : ℤ) → within 1 largest_version a ≡ false → range_of a b ≡ None
unfolding range_of
no_first (pos m) (pos n) h = no_range m n (λ l o k. out m h l (omega arith))
no_first (pos m) (negsuc n) h = rw (and_false (leb 1 m)) refl
no_first (negsuc m) b h = refl

no_second : (a b : ℤ) → within 1 largest_version b ≡ false → range_of a b ≡ None
unfolding range_of
no_second (pos m) (pos n) h = no_range m n (λ l o k. out n h (omega arith) k)
no_second (pos m) (negsuc n) h = rw (and_false (leb 1 m)) refl
no_second (negsuc m) b h = refl

module _ (a b : ℤ) (fa : SFits w64 a) (fb : SFits w64 b) where
  order : (t : Bool) → lt_z (machine b) (machine a) ≡ t → lt_z b a ≡ t
  order t h = ap (λ (x : ℤ). lt_z x a) (sym (same b fb)) ∙ ap (λ (x : ℤ). lt_z (machine b) x) (sym (same a fa)) ∙ h

  -- what the three conditions of a range say: both are naturals
  pub range_naturals : lt_z (machine a) (pos 1) ≡ false → lt_z (machine b) (machine a) ≡ false → lt_z (pos largest_version) (machine b) ≡ false → Natural largest_version a × Natural largest_version b
  range_naturals l o h = go a b (le_yes a fa (pos 1) l) (not_lt b a (order false o)) (ge_yes b fb (pos largest_version) h)
    where
      go : (a b : ℤ) → le_z (pos 1) a ≡ true → le_z a b ≡ true → le_z b (pos largest_version) ≡ true → Natural largest_version a × Natural largest_version b
      go (pos m) (pos n) x y z =
          let j : m ≤ n = leb-true m n y in
          let k : n ≤ largest_version = leb-true n largest_version z in
          (record { natural = tt; bound = omega arith }, record { natural = tt; bound = omega arith })
      go (pos m) (negsuc n) x y z = absurd (subst T (sym y) tt)
      go (negsuc m) b x y z = absurd (subst T (sym x) tt)

module _ (a b : ℤ) (fa : SFits w64 a) (fb : SFits w64 b) (low : Option ℕ) (p : low ≡ number_in largest_version (machine a)) where
  pub range_first : low ≡ None → None ≡ range_of a b
  unfolding range_of
  range_first e =
      let h : number_in largest_version a ≡ None = rw (same a fa) at (sym p ∙ e) in
      sym (no_first a b (number_none largest_version a h))

  module _ (high : Option ℕ) (q : high ≡ number_in largest_version (machine b)) where
    pub range_second : high ≡ None → None ≡ range_of a b
    unfolding range_of
    range_second e =
        let h : number_in largest_version b ≡ None = rw (same b fb) at (sym q ∙ e) in
        sym (no_second a b (number_none largest_version b h))

    module _ (m n : ℕ) (e : low ≡ Some m) (f : high ≡ Some n) where
      first : Numbered largest_version a m
      first = number_some largest_version a m (rw (same a fa) at (sym p ∙ e))

      second : Numbered largest_version b n
      second = number_some largest_version b n (rw (same b fb) at (sym q ∙ f))

      pub range_empty : n < m → None ≡ range_of a b
      unfolding range_of
      range_empty h = rw (first.is, second.is, lt-leb m n h, and_false (leb 1 m)) refl

      pub range_good : m ≤ n → Some (record { min = m; max = n }) ≡ range_of a b
      unfolding range_of
      range_good h = rw (first.is, second.is, le-leb 1 m first.above, le-leb m n h, le-leb n largest_version second.below) refl

-- the ways, for the check to choose from
pub ruleset ranges = (range_first, range_second, range_empty, range_good)

-- ---- ranges of natural numbers
module _ (low high : ℕ) where
  pub range_is : IsRange low high → range_of (pos low) (pos high) ≡ Some (record { min = low; max = high })
  unfolding range_of
  range_is r = rw (le-leb 1 low r.positive, le-leb low high r.ordered, le-leb high largest_version r.small) refl

  -- a range that is made is one, from and to the numbers themselves
  pub range_made : (v : Versions) → range_of (pos low) (pos high) ≡ Some v → IsRange low high × (v ≡ record { min = low; max = high })
  unfolding range_of
  range_made v e = go (leb 1 low) refl (leb low high) refl (leb high largest_version) refl e
    where
      go : (t : Bool) → leb 1 low ≡ t → (u : Bool) → leb low high ≡ u → (w : Bool) → leb high largest_version ≡ w
          → cond (t && (u && w)) (Some (record { min = low; max = high })) None ≡ Some v → IsRange low high × (v ≡ record { min = low; max = high })
      go true p true q true r e = (record { positive = leb-true 1 low p; ordered = leb-true low high q; small = leb-true high largest_version r }, (cc))
      go true p true q false r e = let z : ◌≡◌ {A = ℕ} 0 1 = cc in absurd (omega arith)
      go true p false q w r e = let z : ◌≡◌ {A = ℕ} 0 1 = cc in absurd (omega arith)
      go false p u q w r e = let z : ◌≡◌ {A = ℕ} 0 1 = cc in absurd (omega arith)

  pub range_none : range_of (pos low) (pos high) ≡ None → IsRange low high → ⊥
  range_none e r =
      let n : ◌≡◌ {A = Option Versions} (Some (record { min = low; max = high })) None = sym (range_is r) ∙ e in
      let z : ◌≡◌ {A = ℕ} 0 1 = cc in
      omega arith

-- a natural number converted to an integer, as the machine has it
pub from_machine : (n : ℕ) (z : ℤ) → n < 2 ^ 63 → z ≡ pos n → machine z ≡ pos n
from_machine n z small e = rw e (natural_machine n small)

pub range_machine : (low high : ℕ) (x y : ℤ) → low < 2 ^ 63 → high < 2 ^ 63 → x ≡ pos low → y ≡ pos high → range_of (machine x) (machine y) ≡ range_of (pos low) (pos high)
range_machine low high x y l h d e = rw (from_machine low x l d, from_machine high y h e) refl
