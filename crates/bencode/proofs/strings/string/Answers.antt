-- `bencode::string` meets its contract: a law for each return.
-- Assumes nothing.
use mathlib.Core.Path.{◌≡◌, ◌∙◌}
use native.Mathlib.Omega.{arith}
use Rattle.octets.specs.Bytes.{byte_at}
use Rattle.octets.proofs.digits.NumeralLaws.{inside}
use Rattle.bencode.proofs.scalars.StringLaws.{string_none, string_no_colon, string_short, string_whole}
use Rattle.bencode.proofs.strings.string.Goals as goal

pub returns-then-colon-at : goal.returns-then-colon-at
returns-then-colon-at c =
    let a = c.args in
    let n = c.numeral-n in
    string_none a.s.now a.at n.result n.ensures c.if-colon-at.true

pub returns-then-byte_at-ne58 : goal.returns-then-byte_at-ne58
returns-then-byte_at-ne58 c =
    let a = c.args in
    let n = c.numeral-n in
    string_no_colon a.s.now a.at n.result n.ensures c.if-colon-at.false (λ e. c.if-byte_at-ne58.true (c.byte_at.ensures ∙ e))

pub overflow_add-start : goal.overflow_add-start
overflow_add-start c =
    let s = c.args.s.now in
    let n = c.numeral-n in
    omega (arith, inside s n.result.end (omega (arith, c.byte_at.ensures)))

pub overflow_sub-left : goal.overflow_sub-left
overflow_sub-left c =
    let s = c.args.s.now in
    let n = c.numeral-n in
    omega (arith, inside s n.result.end (omega (arith, c.byte_at.ensures)))

pub returns-then-left-number : goal.returns-then-left-number
returns-then-left-number c =
    let a = c.args in
    let n = c.numeral-n in
    let colon : byte_at a.s.now n.result.end ≡ 58 = omega (arith, c.byte_at.ensures) in
    string_short a.s.now a.at n.result n.ensures c.if-colon-at.false colon (omega (arith, c.well_formed.0.1)) c.if-left-number.true

pub overflow_add-result : goal.overflow_add-result
overflow_add-result c =
    let s = c.args.s.now in
    let n = c.numeral-n in
    omega (arith, inside s n.result.end (omega (arith, c.byte_at.ensures)))

pub returns : goal.returns
returns c =
    let a = c.args in
    let n = c.numeral-n in
    let colon : byte_at a.s.now n.result.end ≡ 58 = omega (arith, c.byte_at.ensures) in
    string_whole a.s.now a.at n.result n.ensures c.if-colon-at.false colon (omega (arith, c.well_formed.0.1)) c.if-left-number.false
