-- `bencode::put::store_string` stores its parts one after the other.
-- Assumes nothing.
use mathlib.Core.List.{List, [], ◌∷◌}
use Prim.Native.Nat.{ℕ, ◌+◌, ◌≤◌}
use lib.ListN.{length}
use Rattle.octets.specs.Numerals.{decimal}
use Rattle.octets.specs.Put.{Put}
use Rattle.bencode.specs.Value.{encode_string}
use Rattle.octets.proofs.writing.PutLaws.{Writing, start, room_next, next, next_put, finish}
use Rattle.bencode.proofs.writing.PutParts.{string_parts, string_parts_lem}
use Rattle.bencode.proofs.put.store_string.Goals as goal

-- the length is written
length_written : {out b text : List ℕ} {at o : ℕ} → at + length (encode_string text) ≤ length out → Put out at (decimal (length text)) b o
    → Writing out at (string_parts text) b o ((58 ∷ []) ∷ text ∷ [])
length_written {out} {text = text} {at = at} room put = next_put (start out at (string_parts text) (rw (string_parts_lem text) room)) put

pub store_byte-o-requires : goal.store_byte-o-requires
store_byte-o-requires c = room_next (length_written c.requires c.put_decimal-o.ensures)

pub returns : goal.returns
returns c =
    let colon_written = next (length_written c.requires c.put_decimal-o.ensures) c.store_byte-o.ensures in
    rw (string_parts_lem c.args.text.now) at (finish (next_put colon_written c.put_bytes.ensures))
