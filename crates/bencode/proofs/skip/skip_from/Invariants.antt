use Prim.Native.Nat.{◌≤◌, ◌-◌, ◌+◌}
use mathlib.Core.Path.{◌≡◌}
use lib.ListN.{length}
use Rattle.bencode.specs.Skip.{skip_from}
use Rattle.bencode.proofs.skip.skip_from.Given as goal

abbrev pub invariant-loop-depth : goal.invariant-loop-depth
invariant-loop-depth l = (l.depth ≤ l.at + 1) × (skip_from l.s l.at l.depth ≡ skip_from l.s l.from l.levels)

abbrev pub decreases-loop-depth : goal.decreases-loop-depth
decreases-loop-depth l = length l.s - l.at
