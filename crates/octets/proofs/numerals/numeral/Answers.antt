use mathlib.Core.Path.{sym, ap, ◌∙◌}
use native.Mathlib.Omega.{arith}
use Rattle.octets.specs.Numerals.{capped}
use Rattle.octets.proofs.digits.NumeralLaws.{inside, numeral_zero, numeral_digits}
use Rattle.octets.proofs.numerals.numeral.Goals as goal

pub overflow_add-result : goal.overflow_add-result
overflow_add-result c =
    let at = c.args.at in
    let s = c.args.s.now in
    omega (arith, inside s at (omega (arith, c.byte_at-zero.ensures)))

pub returns-then-zero : goal.returns-then-zero
returns-then-zero c =
    let a = c.args in
    sym (ap capped (numeral_zero a.s.now a.at (sym c.byte_at-zero.ensures ∙ c.if-zero.true)))

pub returns : goal.returns
returns c =
    let a = c.args in
    c.digits.ensures ∙ sym (ap capped (numeral_digits a.s.now a.at (λ e. c.if-zero.false (c.byte_at-zero.ensures ∙ e))))
