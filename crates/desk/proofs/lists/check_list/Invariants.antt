use mathlib.Core.Path.{◌≡◌}
use mathlib.Core.List.{[]}
use lib.ListN.{take, drop}
use Rattle.desk.specs.Watch.{list_fault}
use Rattle.desk.proofs.lists.check_list.Given as goal

abbrev pub invariant-loop-i : goal.invariant-loop-i
invariant-loop-i l = list_fault [] l.list ≡ list_fault (take l.i l.list) (drop l.i l.list)
