-- `bencode::skip::skip_from` meets its contract: skipping on from the present offset comes to the same. No more is open than
-- bytes were passed, so the depth fits.
-- Assumes nothing.
use mathlib.Core.Path.{refl, sym, ap, ◌∙◌}
use native.Mathlib.Omega.{arith}
use Rattle.octets.specs.Bytes.{byte_at}
use Rattle.bencode.specs.Scalar.{scalar_at}
use Rattle.bencode.specs.Skip.{opens}
use Rattle.octets.proofs.digits.NumeralLaws.{inside}
use Rattle.bencode.proofs.walking.Ends.{scalar_ends, after_end, after_fault}
use Rattle.bencode.proofs.lookup.SkipLaws.{opens_some, skip_open, skip_last, skip_close, skip_fault, skip_scalar_last, skip_scalar}
use Rattle.bencode.proofs.skip.skip_from.Goals as goal

pub loop-depth-init : goal.loop-depth-init
loop-depth-init c = (omega arith, refl)

pub overflow_add-depth : goal.overflow_add-depth
overflow_add-depth c =
    let s = c.args.s.now in
    let l = c.loop-depth in
    let b = c.byte_at-b.ensures in
    let some = opens_some (byte_at s l.at) (sym (c.opens.ensures ∙ ap opens b) ∙ c.if-opens.true) in
    omega (arith, inside s l.at (omega arith))

pub overflow_add-at : goal.overflow_add-at
overflow_add-at c =
    let s = c.args.s.now in
    let l = c.loop-depth in
    let b = c.byte_at-b.ensures in
    let some = opens_some (byte_at s l.at) (sym (c.opens.ensures ∙ ap opens b) ∙ c.if-opens.true) in
    omega (arith, inside s l.at (omega arith))

pub loop-depth-smaller-then-opens : goal.loop-depth-smaller-then-opens
loop-depth-smaller-then-opens c =
    let s = c.args.s.now in
    let l = c.loop-depth in
    let b = c.byte_at-b.ensures in
    let some = opens_some (byte_at s l.at) (sym (c.opens.ensures ∙ ap opens b) ∙ c.if-opens.true) in
    omega (arith, inside s l.at (omega arith))

pub loop-depth-preserved-then-opens : goal.loop-depth-preserved-then-opens
loop-depth-preserved-then-opens c =
    let s = c.args.s.now in
    let l = c.loop-depth in
    let b = c.byte_at-b.ensures in
    (omega arith, skip_open s l.at l.depth (sym (c.opens.ensures ∙ ap opens b) ∙ c.if-opens.true) ∙ l.invariant.1)

pub overflow_add-at-then-b-eq101 : goal.overflow_add-at-then-b-eq101
overflow_add-at-then-b-eq101 c =
    let s = c.args.s.now in
    let l = c.loop-depth in
    let b = c.byte_at-b.ensures in
    omega (arith, inside s l.at (omega (arith, b)))

pub returns-then-depth-le1 : goal.returns-then-depth-le1
returns-then-depth-le1 c =
    let s = c.args.s.now in
    let l = c.loop-depth in
    let b = c.byte_at-b.ensures in
    skip_last s l.at l.depth (sym b ∙ c.if-b-eq101.true) c.if-depth-le1.true ∙ l.invariant.1

pub loop-depth-smaller-then-b-eq101 : goal.loop-depth-smaller-then-b-eq101
loop-depth-smaller-then-b-eq101 c =
    let s = c.args.s.now in
    let l = c.loop-depth in
    let b = c.byte_at-b.ensures in
    omega (arith, inside s l.at (omega (arith, b)))

pub loop-depth-preserved-then-b-eq101 : goal.loop-depth-preserved-then-b-eq101
loop-depth-preserved-then-b-eq101 c =
    let s = c.args.s.now in
    let l = c.loop-depth in
    let b = c.byte_at-b.ensures in
    (omega arith, skip_close s l.at l.depth (sym b ∙ c.if-b-eq101.true) c.if-depth-le1.false ∙ l.invariant.1)

pub returns-in_default : goal.returns-in_default
returns-in_default c =
    let s = c.args.s.now in
    let l = c.loop-depth in
    let b = c.byte_at-b.ensures in
    let f = after_fault s l.at (sym c.in_default.ensures) in
    skip_fault s l.at l.depth (sym (c.opens.ensures ∙ ap opens b) ∙ c.if-opens.false) (λ e. c.if-b-eq101.false (b ∙ e)) f.0 f.1 ∙ l.invariant.1

pub returns-then-depth-eq0 : goal.returns-then-depth-eq0
returns-then-depth-eq0 c =
    let s = c.args.s.now in
    let l = c.loop-depth in
    let b = c.byte_at-b.ensures in
    let r = c.in-Some.end in
    let x = after_end (scalar_at s l.at) r (sym c.in-Some.ensures) in
    skip_scalar_last s l.at l.depth (sym (c.opens.ensures ∙ ap opens b) ∙ c.if-opens.false) (λ e. c.if-b-eq101.false (b ∙ e)) r x c.if-depth-eq0.true ∙ l.invariant.1

pub loop-depth-smaller : goal.loop-depth-smaller
loop-depth-smaller c =
    let s = c.args.s.now in
    let l = c.loop-depth in
    let r = c.in-Some.end in
    let x = after_end (scalar_at s l.at) r (sym c.in-Some.ensures) in
    let h = scalar_ends s l.at r x in
    omega arith

pub loop-depth-preserved : goal.loop-depth-preserved
loop-depth-preserved c =
    let s = c.args.s.now in
    let l = c.loop-depth in
    let b = c.byte_at-b.ensures in
    let r = c.in-Some.end in
    let x = after_end (scalar_at s l.at) r (sym c.in-Some.ensures) in
    let h = scalar_ends s l.at r x in
    (omega arith, skip_scalar s l.at l.depth (sym (c.opens.ensures ∙ ap opens b) ∙ c.if-opens.false) (λ e. c.if-b-eq101.false (b ∙ e)) r x c.if-depth-eq0.false ∙ l.invariant.1)
