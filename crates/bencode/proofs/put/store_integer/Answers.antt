-- `bencode::put::store_integer` stores its parts one after the other.
-- Assumes nothing.
use mathlib.Core.Path.{◌≡◌}
use mathlib.Core.List.{List, [], ◌∷◌}
use Prim.Native.Nat.{ℕ, ◌+◌, ◌≤◌}
use lib.IntN.{ℤ, nat_abs}
use lib.ListN.{length}
use mir.Syntax.{w64}
use mir.ValLaws.{to_z-of_z}
use Rattle.octets.specs.Numerals.{decimal}
use Rattle.bencode.specs.Value.{integer, sign, encode}
use Rattle.octets.specs.Put.{Wrote, Put}
use Rattle.octets.proofs.writing.PutLaws.{Writing, start, room_next, next, next_put, finish}
use Rattle.bencode.proofs.writing.PutParts.{integer_parts, integer_parts_lem}
use Rattle.bencode.proofs.put.store_integer.Goals as goal

-- nothing is written yet
none_written : {out : List ℕ} {at : ℕ} (v : ℤ) → at + length (encode (integer v)) ≤ length out → Writing out at (integer_parts v) out at (integer_parts v)
none_written {out} {at} v room = start out at (integer_parts v) (rw (integer_parts_lem v) room)

-- the `i` is written
letter_written : {out b : List ℕ} {at o : ℕ} (v : ℤ) → at + length (encode (integer v)) ≤ length out → Wrote out at (105 ∷ []) b o
    → Writing out at (integer_parts v) b o (sign v ∷ decimal (nat_abs v) ∷ (101 ∷ []) ∷ [])
letter_written v room letter = next (none_written v room) letter

-- the `i`, the sign and the digits are written, the last two told of `v'`, which is `v`
digits_written : {out b b' b'' : List ℕ} {at o o' o'' magnitude : ℕ} {v v' : ℤ} → v' ≡ v → at + length (encode (integer v)) ≤ length out
    → Wrote out at (105 ∷ []) b o → Wrote b o (sign v') b' o' → magnitude ≡ nat_abs v' → Put b' o' (decimal magnitude) b'' o''
    → Writing out at (integer_parts v) b'' o'' ((101 ∷ []) ∷ [])
digits_written {v = v} same room letter minus absolute digits =
    next_put (next (letter_written v room letter) (rw same at minus)) (rw (absolute, same) at digits)

pub store_byte-o-requires : goal.store_byte-o-requires
store_byte-o-requires c = room_next (none_written c.args.v c.requires)

pub store_sign-o-requires : goal.store_sign-o-requires
store_sign-o-requires c =
    rw (to_z-of_z w64 c.args.v c.ranges.v) (room_next (letter_written c.args.v c.requires c.store_byte-o.ensures))

pub store_byte-requires : goal.store_byte-requires
store_byte-requires c =
    let same = to_z-of_z w64 c.args.v c.ranges.v in
    room_next (digits_written same c.requires c.store_byte-o.ensures c.store_sign-o.ensures c.magnitude.ensures c.put_decimal-o.ensures)

pub returns : goal.returns
returns c =
    let same = to_z-of_z w64 c.args.v c.ranges.v in
    let digits = digits_written same c.requires c.store_byte-o.ensures c.store_sign-o.ensures c.magnitude.ensures c.put_decimal-o.ensures in
    rw (integer_parts_lem c.args.v) at (finish (next digits c.store_byte.ensures))
