-- `bencode::integer` meets its contract: a law for each return.
-- Assumes nothing.
use Prim.Native.Nat.{◌+◌}
use mathlib.Core.Path.{◌∙◌}
use native.Mathlib.Omega.{arith}
use Rattle.octets.proofs.digits.NumeralLaws.{inside}
use Rattle.bencode.proofs.scalars.IntegerLaws.{integer_other, integer_plus, integer_minus_zero, integer_minus}
use Rattle.bencode.proofs.integers.integer.Goals as goal

pub returns-then-byte_at-ne105 : goal.returns-then-byte_at-ne105
returns-then-byte_at-ne105 c =
    let a = c.args in
    integer_other a.s.now a.at (λ e. c.if-byte_at-ne105.true (c.byte_at.ensures ∙ e))

pub overflow_add-at : goal.overflow_add-at
overflow_add-at c =
    let a = c.args in
    omega (arith, inside a.s.now a.at (omega (arith, c.byte_at.ensures)))

pub overflow_add-at-then-byte_at-ne45 : goal.overflow_add-at-then-byte_at-ne45
overflow_add-at-then-byte_at-ne45 c =
    let a = c.args in
    omega (arith, inside a.s.now a.at (omega (arith, c.byte_at.ensures)))

pub returns-then-byte_at-ne45 : goal.returns-then-byte_at-ne45
returns-then-byte_at-ne45 c =
    let a = c.args in
    c.integer_from.ensures ∙ integer_plus a.s.now a.at (omega (arith, c.byte_at.ensures)) (λ e. c.if-byte_at-ne45.true (c.byte_at-2.ensures ∙ e))

pub overflow_add-at-2 : goal.overflow_add-at-2
overflow_add-at-2 c =
    let a = c.args in
    omega (arith, inside a.s.now (a.at + 1) (omega (arith, c.byte_at-2.ensures)))

pub overflow_add-result : goal.overflow_add-result
overflow_add-result c =
    let a = c.args in
    omega (arith, inside a.s.now (a.at + 1) (omega (arith, c.byte_at-2.ensures)))

pub returns-then-byte_at-eq48 : goal.returns-then-byte_at-eq48
returns-then-byte_at-eq48 c =
    let a = c.args in
    integer_minus_zero a.s.now a.at (omega (arith, c.byte_at.ensures)) (omega (arith, c.byte_at-2.ensures)) (omega (arith, c.byte_at-3.ensures))

pub overflow_add-at-3 : goal.overflow_add-at-3
overflow_add-at-3 c =
    let a = c.args in
    omega (arith, inside a.s.now (a.at + 1) (omega (arith, c.byte_at-2.ensures)))

pub returns : goal.returns
returns c =
    let a = c.args in
    c.integer_from-2.ensures ∙ integer_minus a.s.now a.at (omega (arith, c.byte_at.ensures)) (omega (arith, c.byte_at-2.ensures)) (λ e. c.if-byte_at-eq48.false (c.byte_at-3.ensures ∙ e))
