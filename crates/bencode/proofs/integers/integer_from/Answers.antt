-- `bencode::integers::integer_from` meets its contract: a law for each return.
-- Assumes nothing.
use mathlib.Core.Path.{◌≡◌, ◌∙◌}
use native.Mathlib.Omega.{arith}
use Rattle.octets.specs.Bytes.{byte_at}
use Rattle.octets.proofs.digits.NumeralLaws.{inside}
use Rattle.bencode.proofs.scalars.IntegerLaws.{integer_none, integer_no_end, integer_whole}
use Rattle.bencode.proofs.integers.integer_from.Goals as goal

pub returns-then-end-from : goal.returns-then-end-from
returns-then-end-from c =
    let a = c.args in
    let n = c.numeral-n in
    integer_none a.s.now a.at a.from a.negative n.result n.ensures c.if-end-from.true

pub returns-then-byte_at-ne101 : goal.returns-then-byte_at-ne101
returns-then-byte_at-ne101 c =
    let a = c.args in
    let n = c.numeral-n in
    integer_no_end a.s.now a.at a.from a.negative n.result n.ensures c.if-end-from.false (λ e. omega (arith, c.byte_at.ensures))

pub overflow_add-end : goal.overflow_add-end
overflow_add-end c =
    let s = c.args.s.now in
    let n = c.numeral-n in
    omega (arith, inside s n.result.end (omega (arith, c.byte_at.ensures)))

pub returns : goal.returns
returns c =
    let a = c.args in
    let n = c.numeral-n in
    let end : byte_at a.s.now n.result.end ≡ 101 = omega (arith, c.byte_at.ensures) in
    c.in_range.ensures ∙ integer_whole a.s.now a.at a.from a.negative n.result n.ensures c.if-end-from.false end
