-- What the test of a depth says of the levels left.
-- Assumes nothing.
use Rattle.std.specs.Prelude.{Some, None, Option, Ok, Err, ok_or}
use Prim.Native.Nat.{suc, ◌+◌, ◌≤◌}
use mathlib.Core.Path.{◌≡◌, refl, ap}
use mathlib.Core.Bool.{Bool, true, false, cond}
use native.Mathlib.Omega.{arith}
use borrow.Author.Tests.{leb-true, leb-false}
use lib.Dec.{leb}
use Rattle.bencode.specs.declared.depth.Depth.{Depth}
use Rattle.bencode.specs.declared.fault.Fault.{Fault}
use Rattle.bencode.specs.Depth.{largest_depth, levels_left, nested}

pub deeper_left : (depth inner : Depth) (f : Fault) → ok_or (nested depth) f ≡ Ok inner → (levels_left depth ≡ suc (levels_left inner)) × (inner.0 ≤ largest_depth)
deeper_left depth inner f e = go (leb largest_depth depth.0) refl e
  where
    go : (t : Bool) → leb largest_depth depth.0 ≡ t → ok_or (cond {A = Option Depth} t None (Some (record { 0 = depth.0 + 1 }))) f ≡ Ok inner → (levels_left depth ≡ suc (levels_left inner)) × (inner.0 ≤ largest_depth)
    go true q e = cc
    go false q e =
        let i : record { 0 = depth.0 + 1 } ≡ inner = cc in
        let n : depth.0 + 1 ≡ inner.0 = ap (λ (d : Depth). d.0) i in
        omega (arith, leb-false largest_depth depth.0 q)

pub too_deep_left : (depth : Depth) (f g : Fault) → ok_or (nested depth) f ≡ Err g → (levels_left depth ≡ 0) × (f ≡ g)
too_deep_left depth f g e = go (leb largest_depth depth.0) refl e
  where
    go : (t : Bool) → leb largest_depth depth.0 ≡ t → ok_or (cond {A = Option Depth} t None (Some (record { 0 = depth.0 + 1 }))) f ≡ Err g → (levels_left depth ≡ 0) × (f ≡ g)
    go true q e = (omega (arith, leb-true largest_depth depth.0 q), cc)
    go false q e = cc
