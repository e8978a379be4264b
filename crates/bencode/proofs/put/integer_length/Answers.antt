-- `bencode::put::integer_length` meets its contract.
-- Assumes nothing.
use Prim.Native.Nat.{◌+◌}
use mathlib.Core.Path.{◌≡◌}
use native.Mathlib.Omega.{arith}
use lib.IntN.{nat_abs}
use lib.ListN.{length}
use mir.Syntax.{w64}
use mir.ValLaws.{to_z-of_z}
use Rattle.octets.specs.Numerals.{decimal}
use Rattle.bencode.specs.Value.{integer, sign, encode}
use Rattle.bencode.proofs.writing.PutParts.{integer_size}
use Rattle.bencode.proofs.put.integer_length.Goals as goal

pub returns : goal.returns
returns c =
    let v = c.args.v in
    let b = to_z-of_z w64 v c.ranges.v in
    let m : c.magnitude.result ≡ nat_abs v = rw b at c.magnitude.ensures in
    let d : c.decimal_length.result ≡ length (decimal (nat_abs v)) = rw m at c.decimal_length.ensures.0 in
    let s : c.sign_length.result ≡ length (sign v) = rw b at c.sign_length.ensures.0 in
    let e : c.sign_length.result + c.decimal_length.result + 2 ≡ length (encode (integer v)) = omega (arith, integer_size v) in
    (e, omega arith)
