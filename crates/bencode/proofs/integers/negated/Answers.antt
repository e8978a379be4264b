-- `bencode::negated` meets its contract: -n stays in the range of 64 bits, so that nothing wraps.
-- Assumes nothing.
use Prim.Native.Nat.{ℕ, zero, suc, ◌≤◌, ◌-◌, ◌+◌, ◌^◌, ◌%◌}
use mathlib.Core.Path.{◌≡◌, refl, ap, ◌∙◌}
use native.Mathlib.Omega.{arith}
use lib.IntN.{ℤ, pos, neg_ℤ}
use mir.Syntax.{w64}
use mir.Val.{to_z, of_z}
use mir.Facts.{to_z-of_z}
use Rattle.bencode.proofs.scalars.IntegerLaws.{neg_fits}
use Rattle.bencode.proofs.integers.negated.Goals as goal

-- the word of -n
word : (n : ℕ) → n ≤ 2 ^ 63 → (of_z w64 (pos 0) + (2 ^ 64 - n)) % 2 ^ 64 ≡ of_z w64 (neg_ℤ (pos n))
word zero h = refl
word (suc k) h = omega arith

pub returns : goal.returns
returns c =
    let n = c.args.n in
    let same = to_z-of_z (neg_fits n c.requires) in
    ap (λ (z : ℤ). to_z w64 (of_z w64 z)) (c.wrapping_sub_unsigned.ensures ∙ ap (to_z w64) (word n c.requires) ∙ same) ∙ same
