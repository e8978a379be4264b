-- `bencode::put::put_string` meets its contract.
-- Assumes nothing.
use Prim.Native.Nat.{◌+◌, ◌≤◌, ◌<◌}
use mathlib.Core.Path.{sym, ◌∙◌}
use native.Mathlib.Omega.{arith}
use borrow.Author.Tests.{ltb-false, ltb-true}
use lib.ListN.{length}
use Rattle.bencode.specs.Value.{encode_string}
use Rattle.octets.proofs.writing.PutLaws.{wrote_put, put_none}
use Rattle.bencode.proofs.writing.PutParts.{string_size}
use Rattle.bencode.proofs.put.put_string.Goals as goal
use Rattle.bencode.proofs.put.put_string.Goals.{Else-lacks_room-2}

pub returns-then-lacks_room : goal.returns-then-lacks_room
returns-then-lacks_room c =
    let no_text_room = ltb-true _ _ (sym c.lacks_room.ensures ∙ c.if-lacks_room.true) in
    let none : length c.args.out.now < c.args.at + length (encode_string c.args.text.now) = omega (arith, string_size c.args.text.now, no_text_room) in
    put_none none

pub overflow_sub-out : goal.overflow_sub-out
overflow_sub-out c = omega (arith, ltb-false _ _ (sym c.lacks_room.ensures ∙ c.if-lacks_room.false))

pub returns-then-lacks_room-2 : goal.returns-then-lacks_room-2
returns-then-lacks_room-2 c =
    let text_room = ltb-false _ _ (sym c.lacks_room.ensures ∙ c.if-lacks_room.false) in
    let no_head_room = ltb-true _ _ (sym c.lacks_room-2.ensures ∙ c.if-lacks_room-2.true) in
    let none : length c.args.out.now < c.args.at + length (encode_string c.args.text.now) =
    omega (arith, string_size c.args.text.now, c.string_head.ensures.0, text_room, no_head_room) in
    put_none none

-- there is room for all of it
room : (c : Else-lacks_room-2) → c.args.at + length (encode_string c.args.text.now) ≤ length c.args.out.now
room c =
    let text_room = ltb-false _ _ (sym c.lacks_room.ensures ∙ c.if-lacks_room.false) in
    let head_room = ltb-false _ _ (sym c.lacks_room-2.ensures ∙ c.if-lacks_room-2.false) in
    omega (arith, string_size c.args.text.now, c.string_head.ensures.0, text_room, head_room)

pub store_string-requires : goal.store_string-requires
store_string-requires c = room (goal.at.store_string-requires c).Else-lacks_room-2

pub returns : goal.returns
returns c = wrote_put (room (goal.at.returns c).Else-lacks_room-2) c.store_string.ensures
