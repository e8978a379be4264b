-- `octets::same` meets its contract: the rest of the two strings decides.
-- Assumes nothing.
use mathlib.Core.Path.{refl, sym, ◌∙◌}
use native.Mathlib.Omega.{arith}
use Rattle.octets.proofs.sequences.Equality.{same_lengths, same_over, same_differs, same_goes_on}
use Rattle.octets.proofs.bytes.same.Goals as goal

pub returns-then-x-y : goal.returns-then-x-y
returns-then-x-y c = sym (same_lengths c.args.x.now c.args.y.now c.if-x-y.true)

pub loop-i-init : goal.loop-i-init
loop-i-init c = (omega arith, omega arith, refl)

pub returns-then-x-i : goal.returns-then-x-i
returns-then-x-i c =
    let a = c.args in
    let l = c.loop-i in
    sym (same_differs a.x.now a.y.now l.i (omega arith) (omega arith) c.if-x-i.true) ∙ l.invariant.2

pub loop-i-preserved : goal.loop-i-preserved
loop-i-preserved c =
    let a = c.args in
    let l = c.loop-i in
    (omega arith, l.invariant.1, same_goes_on a.x.now a.y.now l.i (omega arith) (omega arith) c.if-x-i.false ∙ l.invariant.2)

pub returns : goal.returns
returns c =
    let a = c.args in
    let l = c.loop-i in
    sym (same_over a.x.now a.y.now l.i (omega arith) (omega arith)) ∙ l.invariant.2
