-- `ipc::handshake_writer::write_range` refuses with 44, or writes the frame and counts its bytes.
-- Assumes nothing.
use Prim.Native.Nat.{ℕ, ◌+◌, ◌≤◌}
use mathlib.Core.Path.{◌≡◌}
use native.Mathlib.Omega.{arith}
use lib.IntN.{ℤ, pos}
use lib.ListN.{length}
use mir.Syntax.{w32}
use mir.Val.{Fits}
use Rattle.bencode.specs.Value.{integer, encode}
use Rattle.bencode.proofs.scalars.Ranges.{machine}
use Rattle.ipc.specs.Header.{largest_payload}
use Rattle.ipc.specs.HandshakeWriter.{handshake_payload}
use Rattle.ipc.proofs.frames.VersionLaws.{from_machine}
use Rattle.ipc.proofs.writing.WriterLaws.{frame_length, leaves_44, leaves_count}
use Rattle.ipc.proofs.writing.HandshakeWriterLaws.{handshake_length}
use Rattle.ipc.proofs.handshake_writer.write_range.Goals as goal

-- the payload's length as it is computed: `first` and `second` are the lengths of the numbers as they are written
module _ {low high first second : ℕ} {x y : ℤ} (low-fits : Fits w32 low) (high-fits : Fits w32 high) (x-is : x ≡ pos low) (y-is : y ≡ pos high)
    (first-is : (first ≡ length (encode (integer (machine x)))) × (first ≤ 23)) (second-is : (second ≡ length (encode (integer (machine y)))) × (second ≤ 23)) where
  size : first + second + 23 ≡ length (handshake_payload low high)
  size =
      let first-length : first ≡ length (encode (integer (pos low))) = rw (from_machine low x (omega arith) x-is) at first-is.0 in
      let second-length : second ≡ length (encode (integer (pos high))) = rw (from_machine high y (omega arith) y-is) at second-is.0 in
      omega (arith, handshake_length low high)

  small : length (handshake_payload low high) ≤ largest_payload
  small = omega (arith, size)

pub returns-then-out-size : goal.returns-then-out-size
returns-then-out-size c =
    let size-is = size c.ranges.low c.ranges.high c.from.ensures c.from-2.ensures c.integer_length.ensures c.integer_length-2.ensures in
    leaves_44 _ _ (small c.ranges.low c.ranges.high c.from.ensures c.from-2.ensures c.integer_length.ensures c.integer_length-2.ensures) (omega (arith, size-is, c.if-out-size.true))

pub put_handshake-requires : goal.put_handshake-requires
put_handshake-requires c =
    let size-is = size c.ranges.low c.ranges.high c.from.ensures c.from-2.ensures c.integer_length.ensures c.integer_length-2.ensures in
    (size-is, omega (arith, frame_length (handshake_payload c.args.low c.args.high), size-is, c.if-out-size.false))

pub returns : goal.returns
returns c =
    let size-is = size c.ranges.low c.ranges.high c.from.ensures c.from-2.ensures c.integer_length.ensures c.integer_length-2.ensures in
    leaves_count _ _ (small c.ranges.low c.ranges.high c.from.ensures c.from-2.ensures c.integer_length.ensures c.integer_length-2.ensures) (omega (arith, size-is, c.if-out-size.false)) c.put_handshake.ensures
