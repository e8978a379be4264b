-- `ipc::handshake_writer::put_handshake` puts the parts of the frame one after the other.
-- Assumes nothing.
use Prim.Native.Nat.{ℕ, ◌<◌, ◌^◌}
use mathlib.Core.List.{List, [], ◌∷◌}
use native.Mathlib.Omega.{arith}
use lib.IntN.{pos}
use Rattle.bencode.specs.Value.{integer, encode}
use Rattle.octets.proofs.writing.PutLaws.{Writing, next_put}
use Rattle.octets.specs.Ascii.{ascii}
use Rattle.ipc.specs.Hex.{hex_header}
use Rattle.ipc.specs.HandshakeWriter.{handshake_payload}
use Rattle.ipc.proofs.frames.VersionLaws.{from_machine}
use Rattle.ipc.proofs.writing.WriterLaws.{frame_start, frame_finish}
use Rattle.ipc.proofs.writing.HandshakeWriterLaws.{handshake_parts, handshake_parts_lem}
use Rattle.ipc.proofs.handshake_writer.put_handshake.Goals as goal

pub returns : goal.returns
unfolding ascii
returns c =
    let Left : List ℕ → ℕ → List (List ℕ) → Type 0 = λ out o rest. Writing c.args.out.now 0 (hex_header c.args.size ∷ handshake_parts c.args.low c.args.high) out o rest in
    let w0 : Left c.args.out.now 0 (hex_header c.args.size ∷ handshake_parts c.args.low c.args.high) = (let low = c.args.low in
    let high = c.args.high in
    frame_start (handshake_payload low high) (handshake_parts low high) c.args.size (handshake_parts_lem low high) c.requires.0 c.args.out.now c.requires.1) in
    let w1 : Left c.put_bytes-o.new.out c.put_bytes-o.result (handshake_parts c.args.low c.args.high) = next_put w0 (rw c.hex_header-header.ensures at c.put_bytes-o.ensures) in
    let w2 : Left c.put_bytes-o-2.new.out c.put_bytes-o-2.result (encode (integer (pos c.args.low)) ∷ ascii "3:max" ∷ encode (integer (pos c.args.high)) ∷ ascii "ee" ∷ []) = next_put w1 c.put_bytes-o-2.ensures in
    let w3 : Left c.put_integer-o.new.out c.put_integer-o.result (ascii "3:max" ∷ encode (integer (pos c.args.high)) ∷ ascii "ee" ∷ []) = (let small : c.args.low < 2 ^ 63 = omega arith in
    next_put w2 (rw (from_machine c.args.low c.from.result small c.from.ensures) at c.put_integer-o.ensures)) in
    let w4 : Left c.put_bytes-o-3.new.out c.put_bytes-o-3.result (encode (integer (pos c.args.high)) ∷ ascii "ee" ∷ []) = next_put w3 c.put_bytes-o-3.ensures in
    let w5 : Left c.put_integer-o-2.new.out c.put_integer-o-2.result (ascii "ee" ∷ []) = (let small : c.args.high < 2 ^ 63 = omega arith in
    next_put w4 (rw (from_machine c.args.high c.from-2.result small c.from-2.ensures) at c.put_integer-o-2.ensures)) in
    let w6 : Left c.put_bytes.new.out c.put_bytes.result [] = next_put w5 c.put_bytes.ensures in
    let low = c.args.low in
    let high = c.args.high in
    frame_finish (handshake_payload low high) (handshake_parts low high) c.args.size (handshake_parts_lem low high) c.requires.0 w6
