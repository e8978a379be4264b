-- `desk::frames::put_items` meets its contract. The invariant: the IDs of the records from the index on are left to put.
-- Assumes nothing.
use Prim.Native.Nat.{◌<◌, ◌^◌}
use Rattle.bencode.proofs.scalars.Ranges.{natural_machine}
use mathlib.Core.Path.{◌≡◌, refl, sym, ◌∙◌}
use mathlib.Core.List.{[]}
use native.Mathlib.Omega.{arith}
use lib.ListN.{get_or, drop, drop_of_length-le}
use lib.IntN.{pos}
use Rattle.octets.specs.Put.{Put}
use Rattle.bencode.specs.Value.{integer, encode}
use Rattle.octets.proofs.writing.PutLaws.{start, finish}
use Rattle.desk.specs.Watch.{empty, filtered, pick_ids}
use Rattle.desk.proofs.writing.ListParts.{item_parts, item_parts_lem, item_put, item_passed}
use Rattle.desk.proofs.watching.Scans.{record_next}
use Rattle.desk.proofs.frames.put_items.Goals as goal
use Rattle.desk.proofs.frames.put_items.Goals.{then-picks, else-picks}

pub loop-w-init : goal.loop-w-init
loop-w-init c = start _ _ (item_parts (pick_ids c.args.pick c.args.list.now)) (rw (item_parts_lem (pick_ids c.args.pick c.args.list.now)) c.requires)

pub loop-w-preserved : goal.loop-w-preserved
loop-w-preserved c =
    let list = c.args.list.now in
    let i = c.loop-w.w-index in
    let next = record_next list i c.loop-w-test.true in
    elim c.if-picks.branch [
      | then-picks w ↦
          let one = get_or list i empty in
          let small : one.id < 2 ^ 63 = omega arith in
          let p : Put c.loop-w.out c.loop-w.o (encode (integer (pos one.id))) c.if-picks.out c.if-picks.o = rw (w.out-is, w.o-is) (rw (w.from.ensures, natural_machine one.id small) at w.put_integer-o.ensures) in
          item_put c.args.pick list i one next c.loop-w.invariant (sym c.picks.ensures ∙ w.if-picks.true) p
      | else-picks w ↦ rw (w.out-is, w.o-is) (item_passed c.args.pick list i (get_or list i empty) next c.loop-w.invariant (sym c.picks.ensures ∙ w.if-picks.false))
    ]

pub returns : goal.returns
unfolding item_parts filtered
returns c =
    let list = c.args.list.now in
    let none : item_parts (pick_ids c.args.pick (drop c.loop-w.w-index list)) ≡ [] = rw (drop_of_length-le list {i = c.loop-w.w-index} c.loop-w-test.false) refl in
    rw (item_parts_lem (pick_ids c.args.pick list)) at (finish (rw none at c.loop-w.invariant))
