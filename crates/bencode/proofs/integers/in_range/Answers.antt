-- `bencode::integers::in_range` meets its contract: a law for each return.
-- Assumes nothing.
use mathlib.Core.Path.{ap, sym, ◌∙◌}
use mathlib.Core.Bool.{Bool}
use native.Mathlib.Omega.{arith}
use lib.IntN.{ℤ}
use mir.Syntax.{w64}
use mir.Val.{to_z, of_z}
use mir.Facts.{to_z-of_z, to_z_pos}
use Rattle.bencode.specs.Integers.{signed, in_range, number_of}
use Rattle.bencode.proofs.scalars.IntegerLaws.{neg_fits, range_low, range_negative, range_high, range_positive}
use Rattle.std.specs.Prelude.{Ok}
use Rattle.bencode.proofs.integers.in_range.Goals as goal

pub returns-then-number-gt-LOWEST : goal.returns-then-number-gt-LOWEST
returns-then-number-gt-LOWEST c =
    let a = c.args in
    range_low a.at a.number a.end c.if-number-gt-LOWEST.true ∙ ap (λ (t : Bool). in_range a.at (signed t a.number) a.end) (sym c.if-negative.true)

pub returns-then-negative : goal.returns-then-negative
returns-then-negative c =
    let a = c.args in
    ap (λ (z : ℤ). Ok (number_of (to_z w64 (of_z w64 z)) a.end)) c.negated.ensures
    ∙ ap (λ (z : ℤ). Ok (number_of z a.end)) (to_z-of_z (neg_fits a.number c.if-number-gt-LOWEST.false))
    ∙ range_negative a.at a.number a.end c.if-number-gt-LOWEST.false
    ∙ ap (λ (t : Bool). in_range a.at (signed t a.number) a.end) (sym c.if-negative.true)

pub returns-then-number-gt-LARGEST : goal.returns-then-number-gt-LARGEST
returns-then-number-gt-LARGEST c =
    let a = c.args in
    range_high a.at a.number a.end c.if-number-gt-LARGEST.true ∙ ap (λ (t : Bool). in_range a.at (signed t a.number) a.end) (sym c.if-negative.false)

pub returns : goal.returns
returns c =
    let a = c.args in
    ap (λ (z : ℤ). Ok (number_of z a.end)) (to_z_pos w64 (omega arith))
    ∙ range_positive a.at a.number a.end c.if-number-gt-LARGEST.false
    ∙ ap (λ (t : Bool). in_range a.at (signed t a.number) a.end) (sym c.if-negative.false)
