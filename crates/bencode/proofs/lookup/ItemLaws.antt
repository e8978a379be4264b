-- Laws of a list's items: one for each way through their reader, and where an item ends.
-- Assumes nothing.
use Rattle.std.specs.Prelude.{Some, None}
use Prim.Native.Nat.{ℕ, ◌≤◌, ◌<◌}
use mathlib.Core.Path.{◌≡◌, refl}
use mathlib.Core.List.{List}
use mathlib.Core.Bool.{Bool, true, false, cond}
use native.Mathlib.Omega.{arith}
use borrow.Author.Tests.{eq-eqb, ne_eqb, lt-leb, leb-false}
use lib.Dec.{eqb, leb}
use lib.ListN.{length}
use Rattle.octets.specs.Bytes.{byte_at}
use Rattle.bencode.specs.Skip.{skip_value}
use Rattle.bencode.specs.Item.{item_at}
use Rattle.bencode.specs.Loop.{Past}
use Rattle.bencode.proofs.lookup.SkipLaws.{skip_range}

module _ (s : List ℕ) (at : ℕ) where
  pub item_last : byte_at s at ≡ 101 → None ≡ item_at s at
  unfolding item_at
  item_last b = rw (eq-eqb (byte_at s at) 101 b) refl

  pub item_value : (byte_at s at ≡ 101 → ⊥) → (end : ℕ) → end ≡ skip_value s at → at < end → Some end ≡ item_at s at
  unfolding item_at
  item_value b end is h = rw (ne_eqb (byte_at s at) 101 b, ← is, lt-leb end at h) refl

-- an item ends after it starts, and no further than the payload
pub item_past : (s : List ℕ) (at end : ℕ) → at ≤ length s → item_at s at ≡ Some end → Past s at end
unfolding item_at
item_past s at end h e = go (eqb (byte_at s at) 101) (leb (skip_value s at) at) refl e
  where
    go : (t u : Bool) → leb (skip_value s at) at ≡ u → cond t None (cond u None (Some (skip_value s at))) ≡ Some end → Past s at end
    go true u q e = let z : ◌≡◌ {A = ℕ} 0 1 = cc in absurd (omega arith)
    go false true q e = let z : ◌≡◌ {A = ℕ} 0 1 = cc in absurd (omega arith)
    go false false q e =
        let i : skip_value s at ≡ end = cc in
        omega (arith, leb-false (skip_value s at) at q, skip_range s at 0 h)
