-- Laws of answers as numbers.
-- Assumes nothing.
use Prim.Native.Nat.{ℕ}
use mathlib.Core.Bool.{Bool, true, false, cond}
use mathlib.Core.Path.{◌≡◌, refl}

-- what is of no kind has kind 0, accepted or not
pub kind_none : (b : Bool) → cond {A = ℕ} b 0 0 ≡ 0
kind_none true = refl
kind_none false = refl
