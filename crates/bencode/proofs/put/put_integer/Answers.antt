-- `bencode::put::put_integer` meets its contract.
-- Assumes nothing.
use mathlib.Core.Path.{sym, ◌∙◌}
use borrow.Author.Tests.{ltb-false, ltb-true}
use mir.Syntax.{w64}
use mir.ValLaws.{to_z-of_z}
use Rattle.octets.proofs.writing.PutLaws.{wrote_put, put_none}
use Rattle.bencode.proofs.put.put_integer.Goals as goal

pub returns-then-lacks_room : goal.returns-then-lacks_room
returns-then-lacks_room c =
    let room = rw c.integer_length.ensures.0 at (ltb-true _ _ (sym c.lacks_room.ensures ∙ c.if-lacks_room.true)) in
    put_none (rw (to_z-of_z w64 c.args.v c.ranges.v) at room)

pub store_integer-requires : goal.store_integer-requires
store_integer-requires c =
    rw c.integer_length.ensures.0 at (ltb-false _ _ (sym c.lacks_room.ensures ∙ c.if-lacks_room.false))

pub returns : goal.returns
returns c =
    let room = rw c.integer_length.ensures.0 at (ltb-false _ _ (sym c.lacks_room.ensures ∙ c.if-lacks_room.false)) in
    rw (to_z-of_z w64 c.args.v c.ranges.v) at (wrote_put room c.store_integer.ensures)
