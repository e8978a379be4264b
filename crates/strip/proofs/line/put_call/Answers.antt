-- `strip::line::put_call` meets its contract.
-- Assumes nothing.
use native.Mathlib.Omega.{arith}
use Rattle.octets.proofs.writing.PutLaws.{next_put, finish}
use Rattle.strip.specs.Line.{call_line}
use Rattle.strip.proofs.printing.LineLaws.{call_start}
use Rattle.strip.proofs.line.put_call.Goals as goal

pub returns : goal.returns
unfolding call_line
returns c =
    let w0 = call_start c.args.out.now c.args.kind c.args.code c.args.count c.requires (omega (arith, c.ranges.kind)) (omega (arith, c.ranges.code)) (omega (arith, c.ranges.count)) in
    let w1 = next_put w0 (rw c.from.ensures at c.put_decimal-o.ensures) in
    let w2 = next_put w1 c.put_bytes-o.ensures in
    let w3 = next_put w2 (rw c.from-2.ensures at c.put_decimal-o-2.ensures) in
    let w4 = next_put w3 c.put_bytes-o-2.ensures in
    let w5 = next_put w4 c.put_decimal-o-3.ensures in
    finish (next_put w5 c.put_bytes.ensures)
