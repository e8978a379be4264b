-- Laws of integers from 1 to a bound, by the number and by the value that was read.
-- Assumes nothing.
use Prim.Native.Nat.{ℕ, ◌≤◌}
use mathlib.Core.Path.{◌≡◌, refl, sym, subst}
use mathlib.Core.Bool.{true, false}
use mathlib.Core.List.{List}
use native.Mathlib.Omega.{arith}
use borrow.Author.Tests.{le-leb, leb-true}
use lib.Dec.{T}
use lib.IntN.{ℤ, pos, negsuc, nat_abs}
use lib.Signed.{lt_z, le_z, non_neg}
use mir.Syntax.{w64}
use mir.Val.{SFits, Fits}
use Rattle.std.specs.Prelude.{Ok, Some}
use Rattle.bencode.specs.Integers.{integer_at, after_positive, number_of}
use Rattle.bencode.proofs.scalars.Ranges.{machine, same, le_yes}
use Rattle.bencode.proofs.walking.Ends.{integer_fits_lem}

-- an integer that was read, as the machine has it, is its own number and at least 1
pub record Positive (s : List ℕ) (at end : ℕ) (x : ℤ) : Type 0 where
  pub read : integer_at s at ≡ Ok (number_of (pos (nat_abs x)) end)
  pub least : 1 ≤ nat_abs x
  pub cast : T (non_neg x) × Fits w64 (nat_abs x)

pub number_within : (s : List ℕ) (at high n end : ℕ) → integer_at s at ≡ Ok (number_of (pos n) end) → 1 ≤ n → n ≤ high → Some end ≡ after_positive high (integer_at s at)
number_within s at high n end e l h = rw (e, le-leb 1 n l, le-leb n high h) refl

pub value_positive : (s : List ℕ) (at : ℕ) (z : ℤ) (end : ℕ) → integer_at s at ≡ Ok (number_of z end) → lt_z (machine z) (pos 1) ≡ false → Positive s at end (machine z)
value_positive s at z end e h =
    let f = integer_fits_lem s at z end e in
    subst (Positive s at end) (sym (same z f)) (go z e f (le_yes z f (pos 1) h))
  where
    go : (z : ℤ) → integer_at s at ≡ Ok (number_of z end) → SFits w64 z → le_z (pos 1) z ≡ true → Positive s at end z
    go (pos n) e f l = record { read = e; least = leb-true 1 n l; cast = (tt, record { fits = omega (arith, f.sfits) }) }
    go (negsuc n) e f l = absurd (subst T (sym l) tt)
