use Prim.Native.Nat.{◌-◌}
use lib.ListN.{length}
use Rattle.bencode.proofs.walking.OpenLevels.{Stand}
use Rattle.bencode.proofs.flat.first_value.Given as goal

abbrev pub invariant-loop-token : goal.invariant-loop-token
invariant-loop-token l = Stand l.profile l.s l.row l.depth l.level l.valued l.at

abbrev pub decreases-loop-token : goal.decreases-loop-token
decreases-loop-token l = length l.s - l.at
