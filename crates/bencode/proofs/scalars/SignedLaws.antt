-- What the test of a sign knows of a number, as the machine has it.
-- Assumes nothing.
use mathlib.Core.Path.{◌≡◌, refl, ap, sym, ◌∙◌, subst}
use mathlib.Core.List.{[], ◌∷◌}
use mathlib.Core.Bool.{Bool, true, false}
use Prim.Native.Nat.{suc, pred, ◌-◌, ◌≤◌, ◌<◌}
use native.Mathlib.Nat.{not-suc-le-zero}
use native.Mathlib.Omega.{arith}
use borrow.Author.Tests.{lt-ltb, ltb-true}
use lib.Dec.{T}
use lib.IntN.{ℤ, pos, negsuc, nat_abs}
use lib.Signed.{lt_z}
use mir.Syntax.{w64}
use mir.Val.{SFits, to_z, of_z}
use mir.ValLaws.{to_z-of_z}
use Rattle.bencode.specs.Value.{sign}

-- the test whether a number is negative, as the machine makes it
abbrev pub below_zero : ℤ → Bool
below_zero v = lt_z (to_z w64 (of_z w64 v)) (pos 0)

-- what a branch on that test knows of a negative number: its flipped bits are one less than its distance from zero
pub record Negative (v : ℤ) : Type 0 where
  pub flipped : to_z w64 (18446744073709551615 - of_z w64 v) ≡ pos (pred (nat_abs v))
  pub away : 0 < nat_abs v
  pub near : nat_abs v ≤ 9223372036854775808
  pub shape : v ≡ negsuc (pred (nat_abs v))
  pub minus : sign v ≡ 45 ∷ []

-- and of any other
pub record Natural (v : ℤ) : Type 0 where
  pub same : to_z w64 (of_z w64 v) ≡ pos (nat_abs v)
  pub near : nat_abs v < 9223372036854775808
  pub shape : v ≡ pos (nat_abs v)
  pub bare : sign v ≡ []

test : (v : ℤ) → SFits w64 v → below_zero v ≡ lt_z v (pos 0)
test v f = ap (λ (z : ℤ). lt_z z (pos 0)) (to_z-of_z w64 v f)

negative_of : (v : ℤ) → SFits w64 v → lt_z v (pos 0) ≡ true → Negative v
negative_of (pos n) f t = let none : n < 0 = ltb-true n 0 t in absurd (not-suc-le-zero none)
negative_of (negsuc n) f t =
    let e : 18446744073709551615 - (18446744073709551616 - suc n) ≡ n = omega (arith, f.sfits) in
    record {
      flipped = ap (to_z w64) e ∙ rw (lt-ltb n 9223372036854775808 f.sfits);
      away = omega arith;
      near = omega (arith, f.sfits);
      shape = refl;
      minus = refl;
    }

natural_of : (v : ℤ) → SFits w64 v → lt_z v (pos 0) ≡ false → Natural v
natural_of (pos n) f t = record { same = to_z-of_z w64 (pos n) f; near = f.sfits; shape = refl; bare = refl }
natural_of (negsuc n) f t = absurd (subst T t tt)

pub negative : (v : ℤ) → SFits w64 v → below_zero v ≡ true → Negative v
negative v f t = negative_of v f (sym (test v f) ∙ t)

pub natural : (v : ℤ) → SFits w64 v → below_zero v ≡ false → Natural v
natural v f t = natural_of v f (sym (test v f) ∙ t)
