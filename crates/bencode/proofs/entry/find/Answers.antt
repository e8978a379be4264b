-- `bencode::entry::find` meets its contract: the entries from the present one on decide.
-- Assumes nothing.
use Prim.Native.Nat.{ℕ}
use mathlib.Core.Path.{refl, sym, ap, ◌∙◌}
use native.Mathlib.Omega.{arith}
use Rattle.bencode.specs.Entry.{entry_at}
use Rattle.bencode.proofs.walking.Ends.{string_whole_inv}
use Rattle.bencode.proofs.lookup.SkipLaws.{skip_range}
use Rattle.bencode.proofs.lookup.EntryLaws.{find_none, find_here, find_more}
use Rattle.bencode.proofs.entry.find.Goals as goal

pub loop-text-init : goal.loop-text-init
loop-text-init c = refl

pub returns-in_default : goal.returns-in_default
returns-in_default c =
    let a = c.args in
    let l = c.loop-text in
    find_none a.s.now a.key.now l.at c.in_default.field-0 (sym c.string.ensures ∙ c.in_default.is) ∙ l.invariant

pub slice_bounds-same-count : goal.slice_bounds-same-count
slice_bounds-same-count c =
    let w = string_whole_inv c.args.s.now c.loop-text.at c.in-Ok.text.start c.in-Ok.text.end (sym c.string.ensures ∙ c.in-Ok.is) in
    omega arith

pub slice_bounds-same-start : goal.slice_bounds-same-start
slice_bounds-same-start c =
    let w = string_whole_inv c.args.s.now c.loop-text.at c.in-Ok.text.start c.in-Ok.text.end (sym c.string.ensures ∙ c.in-Ok.is) in
    omega arith

pub slice_bounds-same-end : goal.slice_bounds-same-end
slice_bounds-same-end c =
    let w = string_whole_inv c.args.s.now c.loop-text.at c.in-Ok.text.start c.in-Ok.text.end (sym c.string.ensures ∙ c.in-Ok.is) in
    omega arith

pub returns-then-same : goal.returns-then-same
returns-then-same c =
    let a = c.args in
    let l = c.loop-text in
    find_here a.s.now a.key.now l.at c.in-Ok.text.start c.in-Ok.text.end (sym c.string.ensures ∙ c.in-Ok.is) (sym c.same.ensures ∙ c.if-same.true) ∙ l.invariant

pub loop-text-smaller : goal.loop-text-smaller
loop-text-smaller c =
    let s = c.args.s.now in
    let l = c.loop-text in
    let w = string_whole_inv s l.at c.in-Ok.text.start c.in-Ok.text.end (sym c.string.ensures ∙ c.in-Ok.is) in
    let r = skip_range s c.in-Ok.text.end 0 w.within in
    omega (arith, c.skip_value-at.ensures)

pub loop-text-preserved : goal.loop-text-preserved
loop-text-preserved c =
    let a = c.args in
    let l = c.loop-text in
    ap (λ (j : ℕ). entry_at a.s.now a.key.now j) c.skip_value-at.ensures
    ∙ find_more a.s.now a.key.now l.at c.in-Ok.text.start c.in-Ok.text.end (sym c.string.ensures ∙ c.in-Ok.is) (sym c.same.ensures ∙ c.if-same.false)
    ∙ l.invariant
