-- Laws of the checks of values and tags that are handed to the writer: one for each way through them.
-- Assumes nothing.
use Prim.Native.Nat.{ℕ, ◌^◌, ◌<◌}
use mathlib.Core.Path.{◌≡◌, refl}
use mathlib.Core.Bool.{Bool, true, false, cond}
use native.Mathlib.Omega.{arith}
use borrow.Author.Tests.{le-leb}
use lib.Dec.{leb}
use mir.Syntax.{w64}
use mir.Val.{to_z}
use Rattle.bencode.proofs.scalars.Ranges.{natural_machine}
use Rattle.ipc.specs.declared.ids.Tag.{Tag}
use Rattle.ipc.specs.Ids.{largest_tag, tag_of}
use Rattle.std.specs.Prelude.{Some, None, Option, is_some}

-- ---- tags that are handed in
pub tag_none : (tag : ℕ) → tag ≡ 0 → true ≡ leb tag largest_tag
tag_none tag e = rw e refl

-- a number that is none of 0 is a tag up to the largest
pub tag_is : (tag : ℕ) → (tag ≡ 0 → ⊥) → tag < 2 ^ 63 → (r : Option Tag) → r ≡ tag_of (to_z w64 tag) → is_some r ≡ leb tag largest_tag
unfolding tag_of
tag_is tag some few r e = rw (e, natural_machine tag few, le-leb 1 tag (omega arith)) (go (leb tag largest_tag))
  where
    go : (b : Bool) → is_some (cond {A = Option Tag} b (Some (record { 0 = tag })) None) ≡ b
    go true = refl
    go false = refl
