-- `bencode::text::is_text` meets its contract: what is left decides as the whole does.
-- Assumes nothing.
use Prim.Native.Nat.{ℕ, ◌<◌, ◌≤◌}
use mathlib.Core.Path.{sym, ap, subst, ◌∙◌}
use mathlib.Core.List.{◌∷◌}
use native.Mathlib.Omega.{arith}
use Rattle.bencode.specs.Utf8.{text_from}
use Rattle.bencode.proofs.utf8.TextLaws.{text_end_lem, text_no_first, text_first, text_low, text_high, text_next}
use Rattle.bencode.proofs.text.is_text.Goals as goal
use Rattle.bencode.proofs.text.is_text.Goals.{then-b-low-via-then-b-low, then-b-low-via-else-b-low+then-high-b}

pub returns-then-left-gt3 : goal.returns-then-left-gt3
returns-then-left-gt3 c =
    let l = c.loop-b in
    let x = c.in-Some.b.now ∷ c.in-Some.after.now in
    let here = ap (text_from l.left l.low l.high) (sym c.in-Some.ensures.cases.0) ∙ c.after_ascii.ensures.1 l.low l.high ∙ l.invariant in
    sym (text_no_first x 0 l.low l.high (omega arith) l.left c.if-left-eq0.true (subst (λ (k : ℕ). 3 < k) c.following-left.ensures c.if-left-gt3.true)) ∙ here

pub loop-b-preserved-then-left-eq0 : goal.loop-b-preserved-then-left-eq0
loop-b-preserved-then-left-eq0 c =
    let l = c.loop-b in
    let x = c.in-Some.b.now ∷ c.in-Some.after.now in
    let here = ap (text_from l.left l.low l.high) (sym c.in-Some.ensures.cases.0) ∙ c.after_ascii.ensures.1 l.low l.high ∙ l.invariant in
    rw (c.following-left.ensures, c.lowest-low.ensures, c.highest-high.ensures)
    (text_first x 0 l.low l.high (omega arith) l.left c.if-left-eq0.true (subst (λ (k : ℕ). k ≤ 3) c.following-left.ensures c.if-left-gt3.false) ∙ here)

pub returns-then-b-low : goal.returns-then-b-low
returns-then-b-low c =
    let l = c.loop-b in
    let x = c.in-Some.b.now ∷ c.in-Some.after.now in
    let here = ap (text_from l.left l.low l.high) (sym c.in-Some.ensures.cases.0) ∙ c.after_ascii.ensures.1 l.low l.high ∙ l.invariant in
    elim c.then-b-low.branch [
      | then-b-low-via-then-b-low w ↦ sym (text_low x 0 l.low l.high (omega arith) l.left c.if-left-eq0.false w.if-b-low.true) ∙ here
      | then-b-low-via-else-b-low+then-high-b w ↦ sym (text_high x 0 l.low l.high (omega arith) l.left c.if-left-eq0.false w.if-b-low.false w.if-high-b.true) ∙ here
    ]

pub loop-b-preserved : goal.loop-b-preserved
loop-b-preserved c =
    let l = c.loop-b in
    let x = c.in-Some.b.now ∷ c.in-Some.after.now in
    let here = ap (text_from l.left l.low l.high) (sym c.in-Some.ensures.cases.0) ∙ c.after_ascii.ensures.1 l.low l.high ∙ l.invariant in
    text_next x 0 l.low l.high (omega arith) l.left c.if-left-eq0.false c.if-b-low.false c.if-high-b.false ∙ here

pub returns : goal.returns
returns c =
    let l = c.loop-b in
    sym (text_end_lem c.after_ascii.result.now 0 l.left l.low l.high (omega (arith, c.in_default.ensures.cases)))
    ∙ c.after_ascii.ensures.1 l.low l.high
    ∙ l.invariant
