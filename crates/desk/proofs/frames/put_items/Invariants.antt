use lib.ListN.{drop}
use Rattle.octets.proofs.writing.PutLaws.{Writing}
use Rattle.desk.specs.Watch.{pick_ids}
use Rattle.desk.proofs.writing.ListParts.{item_parts}
use Rattle.desk.proofs.frames.put_items.Given as goal

abbrev pub invariant-loop-w : goal.invariant-loop-w
invariant-loop-w l = Writing l.initial.out l.at (item_parts (pick_ids l.pick l.list)) l.out l.o (item_parts (pick_ids l.pick (drop l.w-index l.list)))
