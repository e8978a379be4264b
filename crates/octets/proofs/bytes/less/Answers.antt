-- `octets::less` meets its contract: the rest of the two strings decides.
-- Assumes nothing.
use mathlib.Core.Path.{refl, sym, ◌∙◌}
use Rattle.octets.proofs.sequences.Order.{less_over, less_prefix, less_differs, less_goes_on}
use Rattle.octets.proofs.bytes.less.Goals as goal

pub loop-i-init : goal.loop-i-init
loop-i-init c = refl

pub returns-then-y-i : goal.returns-then-y-i
returns-then-y-i c =
    let a = c.args in
    let l = c.loop-i in
    sym (less_over a.x.now a.y.now l.i c.if-y-i.true) ∙ l.invariant

pub returns-then-x-i : goal.returns-then-x-i
returns-then-x-i c =
    let a = c.args in
    let l = c.loop-i in
    sym (less_prefix a.x.now a.y.now l.i c.if-y-i.false c.if-x-i.true) ∙ l.invariant

pub returns-then-x-i-2 : goal.returns-then-x-i-2
returns-then-x-i-2 c =
    let a = c.args in
    let l = c.loop-i in
    sym (less_differs a.x.now a.y.now l.i c.if-y-i.false c.if-x-i.false c.if-x-i-2.true) ∙ l.invariant

pub loop-i-preserved : goal.loop-i-preserved
loop-i-preserved c =
    let a = c.args in
    let l = c.loop-i in
    less_goes_on a.x.now a.y.now l.i c.if-y-i.false c.if-x-i.false c.if-x-i-2.false ∙ l.invariant
