-- `bencode::runs::all_items` meets its contract: what was passed, and what `after` answers.
-- Assumes nothing.
use mathlib.Core.Logic.{inl, inr}
use native.Mathlib.Omega.{arith}
use Rattle.bencode.specs.Runs.{none, more}
use Rattle.bencode.proofs.runs.all_items.Goals as goal

pub loop-end-init : goal.loop-end-init
loop-end-init g c = (c.requires.can_pass, c.requires.can, none)

pub returns-in_default : goal.returns-in_default
returns-in_default g c = record { items = more c.loop-end.at c.pass-last.result c.loop-end.invariant.2 (inl c.pass-last.ensures); last = c.in_default.ensures }

pub loop-end-smaller : goal.loop-end-smaller
loop-end-smaller g c =
    let last = c.pass-last.result in
    let passed = c.requires.passes c.loop-end.at last c.pass-last.ensures in
    let up = c.requires.onward last c.in-Some.end c.in-Some.ensures in
    omega arith

pub loop-end-preserved : goal.loop-end-preserved
loop-end-preserved g c =
    let last = c.pass-last.result in
    let passed = more c.loop-end.at last c.loop-end.invariant.2 (inl c.pass-last.ensures) in
    (c.loop-end.invariant.0, c.loop-end.invariant.1, more last c.in-Some.end passed (inr c.in-Some.ensures))
