-- Numbers of a strip, as the machine has them.
-- Assumes nothing.
use Prim.Native.Nat.{ℕ, suc, zero, ◌+◌, ◌-◌, ◌^◌, ◌<◌}
use mathlib.Core.Path.{◌≡◌, refl, sym, ap, ◌∙◌}
use mathlib.Core.Bool.{Bool, true, false, cond}
use native.Mathlib.Omega.{arith}
use borrow.Author.Tests.{ltb-true, ltb-false}
use lib.Dec.{ltb}
use lib.IntN.{ℤ, pos, negsuc, ◌-ℤ◌}
use lib.Signed.{mag}
use mir.Syntax.{w32}
use mir.Val.{SFits, to_z, of_z}
use mir.ValLaws.{to_z-of_z}
use mir.Facts.{to_z_pos, to_z-neg}
use Rattle.strip.specs.Number.{twos_complement}

-- -1 - m
less : (m : ℕ) → negsuc 0 -ℤ pos m ≡ negsuc m
less zero = refl
less (suc k) = let z : suc (0 + k) ≡ suc k = omega arith in ap negsuc z

pub difference : (m : ℕ) → m < 2 ^ 31 → negsuc 0 -ℤ to_z w32 m ≡ negsuc m
difference m h = ap (λ (z : ℤ). negsuc 0 -ℤ z) (to_z_pos w32 {n = m} h) ∙ less m

pub below_fits : (m : ℕ) → m < 2 ^ 31 → SFits w32 (negsuc m)
below_fits m h = record { sfits = h }

pub twos : (n : ℕ) → n < 2 ^ 32 → to_z w32 n ≡ twos_complement n
unfolding twos_complement
twos n h = by_test (ltb n 2147483648) refl
  where
    by_test : (t : Bool) → ltb n 2147483648 ≡ t → to_z w32 n ≡ cond t (pos n) (negsuc (4294967295 - n))
    by_test true e = to_z_pos w32 {n = n} (ltb-true n 2147483648 e)
    by_test false e =
        let k = 4294967295 - n in
        let l = ltb-false n 2147483648 e in
        let low : k < 2 ^ 31 = omega arith in
        let same : 2 ^ 32 - suc k ≡ n = omega arith in
        ap (to_z w32) (sym same) ∙ to_z-neg w32 k low

-- a number of 32 bits, as the machine has it
pub machine : (z : ℤ) → mag z < 2147483648 → to_z w32 (of_z w32 z) ≡ z
machine z h = to_z-of_z w32 z (record { sfits = h })
