use Prim.Native.Nat.{◌-◌}
use mathlib.Core.Path.{◌≡◌}
use lib.ListN.{length, drop}
use Rattle.octets.specs.Bytes.{less}
use Rattle.octets.proofs.bytes.less.Given as goal

abbrev pub invariant-loop-i : goal.invariant-loop-i
invariant-loop-i l = less (drop l.i l.x) (drop l.i l.y) ≡ less l.x l.y

abbrev pub decreases-loop-i : goal.decreases-loop-i
decreases-loop-i l = length l.y - l.i
