-- `desk::record::Desk::put_listed` meets its contract.
-- Assumes nothing.
use Prim.Native.Nat.{ℕ}
use mathlib.Core.Path.{◌≡◌, sym, ◌∙◌}
use mathlib.Core.Bool.{true}
use mathlib.Core.List.{List}
use lib.ListN.{replicate}
use Rattle.octets.specs.Put.{Wrote}
use Rattle.desk.specs.declared.lists.Pick.{Pick}
use Rattle.desk.specs.declared.record.Desk.{Desk}
use Rattle.desk.specs.Watch.{pick_ids}
use Rattle.desk.specs.Record.{watched, sound}
use Rattle.desk.specs.Command.{no_tag, id_list, longest_frames}
use Rattle.desk.proofs.writing.FrameParts.{picked_few, picked_room, listed_none, listed_some}
use Rattle.desk.proofs.writing.PutFrames.{Front, front_wrote, front_count, put_nothing}
use native.Mathlib.Omega.{arith}
use Rattle.desk.proofs.writing.Writes.{ids_writable}
use Rattle.desk.proofs.record.Desk.put_listed.Goals as goal

-- the list stands at the front
front : (d : Desk) (pick : Pick) {after : List ℕ} {n : ℕ} → sound d ≡ true → Wrote (replicate longest_frames 0) 0 (id_list (pick_ids pick (watched d))) after n → Front (id_list (pick_ids pick (watched d))) after n
front d pick h wrote = front_wrote (picked_room d h pick) wrote

pub put_ids-n-requires : goal.put_ids-n-requires
put_ids-n-requires c = rw c.watched.ensures (picked_room c.args.self.now c.requires.1 c.args.pick)

pub returns-then-n-eq-EMPTY_LIST : goal.returns-then-n-eq-EMPTY_LIST
returns-then-n-eq-EMPTY_LIST c =
    let list = front c.args.self.now c.args.pick c.requires.1 (rw c.watched.ensures at c.put_ids-n.ensures) in
    let ids = pick_ids c.args.pick (watched c.args.self.now) in
    rw (listed_none no_tag c.args.key ids (sym list.counted ∙ c.if-n-eq-EMPTY_LIST.true)) (put_nothing c.args.out.now c.args.at)

pub slice_bounds-list-end : goal.slice_bounds-list-end
slice_bounds-list-end c = (front c.args.self.now c.args.pick c.requires.1 (rw c.watched.ensures at c.put_ids-n.ensures)).inside

pub slice_bounds-put_message-end : goal.slice_bounds-put_message-end
slice_bounds-put_message-end c = front_count (front c.args.self.now c.args.pick c.requires.1 (rw c.watched.ensures at c.put_ids-n.ensures))

pub put_message-requires : goal.put_message-requires
put_message-requires c =
    let list = front c.args.self.now c.args.pick c.requires.1 (rw c.watched.ensures at c.put_ids-n.ensures) in
    let few = picked_few c.args.self.now c.requires.1 c.args.pick in
    rw list.front (ids_writable no_tag (omega arith) c.args.key (pick_ids c.args.pick (watched c.args.self.now)) c.requires.0 few.0 few.1)

pub returns : goal.returns
returns c =
    let list = front c.args.self.now c.args.pick c.requires.1 (rw c.watched.ensures at c.put_ids-n.ensures) in
    let ids = pick_ids c.args.pick (watched c.args.self.now) in
    let some = listed_some no_tag c.args.key ids (λ e. c.if-n-eq-EMPTY_LIST.false (list.counted ∙ e)) in
    rw some (rw list.front at c.put_message.ensures)
