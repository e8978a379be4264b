-- `desk::frames::put_ids` meets its contract.
-- Assumes nothing.
use Prim.Native.Nat.{ℕ, ◌≤◌}
use mathlib.Core.List.{List, [], ◌∷◌}
use native.Mathlib.Omega.{arith}
use lib.ListN.{length}
use Rattle.octets.specs.Put.{Put}
use Rattle.bencode.specs.Value.{encode_all}
use Rattle.octets.proofs.writing.PutLaws.{Writing, start, room_next, next, next_put, finish}
use Rattle.desk.specs.Watch.{pick_ids}
use Rattle.desk.specs.Command.{values, id_list}
use Rattle.desk.proofs.writing.ListParts.{list_parts, list_parts_lem}
use Rattle.desk.proofs.frames.put_ids.Goals as goal

-- what is left to put, once the start of the list is
started : (ids : List ℕ) {before after : List ℕ} {o : ℕ} → length (id_list ids) ≤ length before → Put before 0 (108 ∷ []) after o
    → Writing before 0 (list_parts ids) after o (encode_all (values ids) ∷ (101 ∷ []) ∷ [])
started ids {before} room put_start = next_put (start before 0 (list_parts ids) (rw (list_parts_lem ids) (omega (arith, room)))) put_start

pub put_items-o-requires : goal.put_items-o-requires
put_items-o-requires c = room_next (started (pick_ids c.args.pick c.args.list.now) c.requires c.put_bytes-o.ensures)

pub returns : goal.returns
returns c =
    let ids = pick_ids c.args.pick c.args.list.now in
    rw (list_parts_lem ids) at (finish (next_put (next (started ids c.requires c.put_bytes-o.ensures) c.put_items-o.ensures) c.put_bytes.ensures))
