-- `bencode::positive_integers::ten_digits` meets its contract: one law for fewer digits, and one for all of them.
-- Assumes nothing.
use Prim.Native.Nat.{◌*◌}
use mathlib.Core.Path.{subst}
use native.Mathlib.Omega.{arith}
use Rattle.bencode.proofs.scalars.TenLaws.{Bounds, pair_above, tens_fewer, tens_first, tens_most}
use Rattle.bencode.proofs.positive_integers.ten_digits.Goals as goal

pub returns-then-end-from : goal.returns-then-end-from
returns-then-end-from c = tens_fewer c.args.s.now c.args.from c.digits_end-end.result c.digits_end-end.ensures c.if-end-from.true

pub overflow_sub-result : goal.overflow_sub-result
overflow_sub-result c =
    let d = tens_first c.args.s.now c.args.from c.digits_end-end.result c.digits_end-end.ensures c.if-end-from.false in
    omega (arith, c.from.ensures, c.from-2.ensures, d.0.0, d.1.0)

pub returns : goal.returns
returns c =
    let s = c.args.s.now in
    let from = c.args.from in
    let end = c.digits_end-end.result in
    subst (Bounds s from end) {x = pair_above s from * 100000000} (omega (arith, c.from.ensures, c.from-2.ensures)) (tens_most s from end c.digits_end-end.ensures c.if-end-from.false)
