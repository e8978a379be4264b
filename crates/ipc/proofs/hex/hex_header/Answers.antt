-- `ipc::hex::hex_header` meets its contract.
-- Assumes nothing.
use Rattle.std.proofs.Common.{sym, ◌∙◌, arith}
use Rattle.std.proofs.lemmas.List.{ext_get_or}
use Rattle.ipc.specs.Hex.{hex_header}
use Rattle.ipc.proofs.headers.HexLaws.{header_length_lem, header_digit, digits_more}
use Rattle.ipc.proofs.hex.hex_header.Goals as goal

pub loop-k-preserved : goal.loop-k-preserved
loop-k-preserved c = digits_more c.args.n c.loop-k.k c.loop-k.digits c.hex_digit.result c.loop-k-test.true c.hex_digit.ensures c.loop-k.invariant

pub returns : goal.returns
returns c =
    let n = c.args.n in
    ext_get_or 0 c.loop-k.digits (hex_header n) (omega (arith, c.loop-k.invariant.0, header_length_lem n))
    (λ j h. c.loop-k.invariant.1 j (omega (arith, h, c.loop-k.invariant.0, c.loop-k-test.false)) ∙ sym (header_digit n j (omega (arith, h, c.loop-k.invariant.0))))
