-- Limits: what the machine's form of a number says of it.
-- Assumes nothing.
use mathlib.Core.Path.{◌≡◌, ◌∙◌}
use lib.IntN.{ℤ}
use native.Mathlib.Omega.{arith}
use mir.Syntax.{w32, w64}
use mir.Val.{SFits, to_z, of_z}
use mir.ValLaws.{to_z-of_z}

-- a number as the machine has it
abbrev pub machine : ℤ → ℤ
machine n = to_z w32 (of_z w32 n)

module _ (n : ℤ) (f : SFits w32 n) where
  -- at 64 bits it is the number
  wide_fits : SFits w64 (machine n)
  wide_fits = rw (to_z-of_z w32 n f) (record { sfits = omega (arith, f.sfits) })

  pub wide : to_z w64 (of_z w64 (machine n)) ≡ n
  wide = to_z-of_z w64 (machine n) wide_fits ∙ to_z-of_z w32 n f
