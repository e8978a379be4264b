use Prim.Native.Nat.{◌-◌}
use lib.ListN.{length}
use Rattle.ipc.specs.declared.format.Items.{Items}
use Rattle.ipc.proofs.formats.ListingLaws.{Goes}
use Rattle.ipc.proofs.lists.torrent_list.Given as goal

abbrev pub invariant-loop-profile : goal.invariant-loop-profile
invariant-loop-profile l = Goes l.profile Items.Torrents l.p l.from l.at

abbrev pub decreases-loop-profile : goal.decreases-loop-profile
decreases-loop-profile l = length l.p - l.at
