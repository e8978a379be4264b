use mathlib.Core.Path.{◌≡◌}
use Prim.Native.Nat.{◌-◌}
use lib.ListN.{length}
use Rattle.ipc.specs.Format.{items_end}
use Rattle.ipc.proofs.format.items_end.Given as goal

abbrev pub invariant-loop-items : goal.invariant-loop-items
invariant-loop-items l = items_end l.items l.p l.at ≡ items_end l.items l.p l.from

abbrev pub decreases-loop-items : goal.decreases-loop-items
decreases-loop-items l = length l.p - l.at
