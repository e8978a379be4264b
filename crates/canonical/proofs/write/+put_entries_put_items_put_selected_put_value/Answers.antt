-- The proof of the cycle of calls {put_entries, put_items, put_selected, put_value}. The measure of `put_value` is four times the
-- levels left; it calls the others with one level less, and they call it with as many, so theirs lie between.
-- The loops' invariants say what is left to write, and that it has room (`Left`).
-- Each step cites the law of `WriteLaws` for that way.
-- Assumes nothing.
use Prim.Native.Nat.{◌+◌, ◌-◌}
use mathlib.Core.Path.{◌≡◌, refl, sym, ap, subst, ◌∙◌}
use mathlib.Core.List.{List}
use native.Mathlib.Omega.{arith}
use lib.ListN.{length}
use Rattle.octets.specs.Bytes.{byte_at}
use Rattle.octets.specs.Put.{Wrote}
use Rattle.octets.proofs.digits.NumeralLaws.{inside}
use Rattle.std.specs.Prelude.{Some}
use Rattle.canonical.proofs.walks.PickLaws.{stands_picked}
use Rattle.canonical.specs.SortWalk.{nothing, bound_of, values_from, selected, entries_at, sorted_at}
use Rattle.canonical.proofs.walks.WriteLaws.{at_bottom, above_copied, above_list, above_dictionary, items_over, items_end_lem, items_more, entries_rise, entries_mixed, selected_over, selected_none, selected_more, Left, left_all, left_room, left_next, left_none, opened_room, closed_wrote}
use Prim.Native.Nat.{ℕ}
use Rattle.canonical.proofs.write.+put_entries_put_items_put_selected_put_value.Goals as goal

pub put_entries-put_items-requires : goal.put_entries-put_items-requires
put_entries-put_items-requires t c =
    let a = c.args in
    let s = a.s.now in
    let value = sorted_at a.levels s in
    let e = entries_rise value s a.first (sym c.rises.ensures ∙ c.if-rises.true) in
    (omega arith, (c.requires.0, omega (arith, ap length e, c.requires.1)))

pub put_entries-returns-then-rises : goal.put_entries-returns-then-rises
put_entries-returns-then-rises t c =
    let a = c.args in
    let s = a.s.now in
    let value = sorted_at a.levels s in
    let e = entries_rise value s a.first (sym c.rises.ensures ∙ c.if-rises.true) in
    subst (λ (x : List ℕ). Wrote a.out.now a.to x c.put_items.new.out c.put_items.result) (sym e) c.put_items.ensures

pub put_entries-put_selected-requires : goal.put_entries-put_selected-requires
put_entries-put_selected-requires t c =
    let a = c.args in
    let s = a.s.now in
    let value = sorted_at a.levels s in
    let e = entries_mixed value s a.first (sym c.rises.ensures ∙ c.if-rises.false) in
    (omega arith, omega (arith, ap length e, c.requires.1))

pub put_entries-returns : goal.put_entries-returns
put_entries-returns t c =
    let a = c.args in
    let s = a.s.now in
    let value = sorted_at a.levels s in
    let e = entries_mixed value s a.first (sym c.rises.ensures ∙ c.if-rises.false) in
    subst (λ (x : List ℕ). Wrote a.out.now a.to x c.put_selected.new.out c.put_selected.result) (sym e) c.put_selected.ensures

pub put_items-loop-turn-init : goal.put_items-loop-turn-init
put_items-loop-turn-init t c =
    let a = c.args in
    let s = a.s.now in
    let value = sorted_at a.levels s in
    let whole : a.most - 0 ≡ a.most = omega arith in
    record { left = rw whole (left_all a.out.now a.to (values_from value s a.most a.from) c.requires.1); as_far = refl }

pub put_items-returns-then-byte_at-eq101 : goal.put_items-returns-then-byte_at-eq101
put_items-returns-then-byte_at-eq101 t c =
    let a = c.args in
    let s = a.s.now in
    let value = sorted_at a.levels s in
    let l = c.loop-turn in
    left_none l.invariant.left (items_end_lem value s l.at (a.most - l._turn) (sym c.byte_at.ensures ∙ c.if-byte_at-eq101.true))

pub put_items-put_value-end-requires : goal.put_items-put_value-end-requires
put_items-put_value-end-requires t c =
    let a = c.args in
    let s = a.s.now in
    let value = sorted_at a.levels s in
    let l = c.loop-turn in
    let x = value l.at in
    let y = values_from value s (a.most - (l._turn + 1)) (l.at + length x) in
    let e = items_more value s l.at (a.most - l._turn) (a.most - (l._turn + 1)) (omega (arith, c.loop-turn-test.true)) (λ q. c.if-byte_at-eq101.false (c.byte_at.ensures ∙ q)) in
    (omega arith, left_room l.invariant.left x y e)

pub put_items-overflow_add-at : goal.put_items-overflow_add-at
put_items-overflow_add-at t c =
    let a = c.args in
    let s = a.s.now in
    let value = sorted_at a.levels s in
    let l = c.loop-turn in
    let x = value l.at in
    let y = values_from value s (a.most - (l._turn + 1)) (l.at + length x) in
    let e = items_more value s l.at (a.most - l._turn) (a.most - (l._turn + 1)) (omega (arith, c.loop-turn-test.true)) (λ q. c.if-byte_at-eq101.false (c.byte_at.ensures ∙ q)) in
    omega (arith, c.put_value-end.ensures.ended, left_room l.invariant.left x y e, l.invariant.as_far, c.requires.0)

pub put_items-loop-turn-preserved : goal.put_items-loop-turn-preserved
put_items-loop-turn-preserved t c =
    let a = c.args in
    let s = a.s.now in
    let value = sorted_at a.levels s in
    let l = c.loop-turn in
    let x = value l.at in
    let y = values_from value s (a.most - (l._turn + 1)) (l.at + length x) in
    let e = items_more value s l.at (a.most - l._turn) (a.most - (l._turn + 1)) (omega (arith, c.loop-turn-test.true)) (λ q. c.if-byte_at-eq101.false (c.byte_at.ensures ∙ q)) in
    let w = c.put_value-end.ensures in
    let d : l.at + length x ≡ l.at + (c.put_value-end.result - l.o) = omega (arith, w.ended) in
    record {
      left =
          subst (λ (k : ℕ). Left a.out.now a.to (values_from value s a.most a.from) c.put_value-end.new.out c.put_value-end.result (values_from value s (a.most - (l._turn + 1)) k)) d
          (left_next l.invariant.left x y c.put_value-end.new.out c.put_value-end.result e w);
      as_far = omega (arith, w.ended, l.invariant.as_far);
    }

pub put_items-returns : goal.put_items-returns
put_items-returns t c =
    let a = c.args in
    let s = a.s.now in
    let value = sorted_at a.levels s in
    let l = c.loop-turn in
    left_none l.invariant.left (items_over value s l.at (a.most - l._turn) (omega (arith, c.loop-turn-test.false)))

pub put_selected-loop-turn-init : goal.put_selected-loop-turn-init
put_selected-loop-turn-init t c =
    let a = c.args in
    let s = a.s.now in
    let value = sorted_at a.levels s in
    let whole : length s - 0 ≡ length s = omega arith in
    record { left = rw whole (left_all a.out.now a.to (selected value s a.first (length s) nothing) c.requires); stands = tt }

pub put_selected-least-last-requires : goal.put_selected-least-last-requires
put_selected-least-last-requires t c = c.loop-turn.invariant.stands

pub put_selected-returns-in_default : goal.put_selected-returns-in_default
put_selected-returns-in_default t c =
    let a = c.args in
    let s = a.s.now in
    let value = sorted_at a.levels s in
    let l = c.loop-turn in
    left_none l.invariant.left (selected_none value s a.first (bound_of s l.last) (length s - l._turn) c.least-last.result c.least-last.ensures.0 c.in_default.is)

pub put_selected-put_items-o-requires : goal.put_selected-put_items-o-requires
put_selected-put_items-o-requires t c =
    let a = c.args in
    let s = a.s.now in
    let value = sorted_at a.levels s in
    let l = c.loop-turn in
    let b = bound_of s l.last in
    let p = c.least-last.result in
    let x = values_from value s 2 c.in-Some.entry.at in
    let y = selected value s a.first (length s - (l._turn + 1)) (bound_of s (Some c.in-Some.entry)) in
    let e = selected_more value s a.first b (length s - l._turn) (length s - (l._turn + 1)) p c.in-Some.entry (omega (arith, c.loop-turn-test.true)) c.least-last.ensures.0 c.in-Some.is in
    (omega arith, ((stands_picked s p c.in-Some.entry c.in-Some.is c.least-last.ensures.1).0, left_room l.invariant.left x y e))

pub put_selected-loop-turn-preserved : goal.put_selected-loop-turn-preserved
put_selected-loop-turn-preserved t c =
    let a = c.args in
    let s = a.s.now in
    let value = sorted_at a.levels s in
    let l = c.loop-turn in
    let b = bound_of s l.last in
    let p = c.least-last.result in
    let x = values_from value s 2 c.in-Some.entry.at in
    let y = selected value s a.first (length s - (l._turn + 1)) (bound_of s (Some c.in-Some.entry)) in
    let e = selected_more value s a.first b (length s - l._turn) (length s - (l._turn + 1)) p c.in-Some.entry (omega (arith, c.loop-turn-test.true)) c.least-last.ensures.0 c.in-Some.is in
    record {
      left = left_next l.invariant.left x y c.put_items-o.new.out c.put_items-o.result e c.put_items-o.ensures;
      stands = stands_picked s p c.in-Some.entry c.in-Some.is c.least-last.ensures.1;
    }

pub put_selected-returns : goal.put_selected-returns
put_selected-returns t c =
    let a = c.args in
    let s = a.s.now in
    let value = sorted_at a.levels s in
    let l = c.loop-turn in
    left_none l.invariant.left (selected_over value s a.first (bound_of s l.last) (length s - l._turn) (omega (arith, c.loop-turn-test.false)))

pub put_value-put_copy-requires : goal.put_value-put_copy-requires
put_value-put_copy-requires t c =
    let a = c.args in
    let s = a.s.now in
    omega (arith, ap length (at_bottom a.levels s a.at c.if-levels-eq0.true), c.requires)

pub put_value-returns-then-levels-eq0 : goal.put_value-returns-then-levels-eq0
put_value-returns-then-levels-eq0 t c =
    let a = c.args in
    let s = a.s.now in
    subst (λ (x : List ℕ). Wrote a.out.now a.to x c.put_copy.new.out c.put_copy.result) (sym (at_bottom a.levels s a.at c.if-levels-eq0.true)) c.put_copy.ensures

pub put_value-put_items-o-requires : goal.put_value-put_items-o-requires
put_value-put_items-o-requires t c =
    let a = c.args in
    let s = a.s.now in
    let f : byte_at s a.at ≡ 108 = sym c.byte_at-b.ensures ∙ c.if-b-eq108.true in
    let inner = values_from (sorted_at (a.levels - 1) s) s (length s) (a.at + 1) in
    let e = above_list a.levels s a.at c.if-levels-eq0.false f in
    (omega (arith, c.if-levels-eq0.false), (omega (arith, inside s a.at (omega (arith, f))), opened_room a.out.now a.to 108 inner (sorted_at a.levels s a.at) e c.requires c.put_bytes-o.new.out c.put_bytes-o.result c.put_bytes-o.ensures))

pub put_value-returns-then-b-eq108 : goal.put_value-returns-then-b-eq108
put_value-returns-then-b-eq108 t c =
    let a = c.args in
    let s = a.s.now in
    let f : byte_at s a.at ≡ 108 = sym c.byte_at-b.ensures ∙ c.if-b-eq108.true in
    let inner = values_from (sorted_at (a.levels - 1) s) s (length s) (a.at + 1) in
    let e = above_list a.levels s a.at c.if-levels-eq0.false f in
    closed_wrote a.out.now a.to 108 inner (sorted_at a.levels s a.at) e c.requires c.put_bytes-o.new.out c.put_bytes-o.result c.put_bytes-o.ensures c.put_items-o.new.out c.put_bytes.new.out c.put_items-o.result c.put_bytes.result c.put_items-o.ensures c.put_bytes.ensures

pub put_value-put_entries-o-requires : goal.put_value-put_entries-o-requires
put_value-put_entries-o-requires t c =
    let a = c.args in
    let s = a.s.now in
    let f : byte_at s a.at ≡ 100 = sym c.byte_at-b.ensures ∙ c.if-b-eq100.true in
    let inner = entries_at (sorted_at (a.levels - 1) s) s (a.at + 1) in
    let e = above_dictionary a.levels s a.at c.if-levels-eq0.false f in
    (omega (arith, c.if-levels-eq0.false), (omega (arith, inside s a.at (omega (arith, f))), opened_room a.out.now a.to 100 inner (sorted_at a.levels s a.at) e c.requires c.put_bytes-o-then-b-eq100.new.out c.put_bytes-o-then-b-eq100.result c.put_bytes-o-then-b-eq100.ensures))

pub put_value-returns-then-b-eq100 : goal.put_value-returns-then-b-eq100
put_value-returns-then-b-eq100 t c =
    let a = c.args in
    let s = a.s.now in
    let f : byte_at s a.at ≡ 100 = sym c.byte_at-b.ensures ∙ c.if-b-eq100.true in
    let inner = entries_at (sorted_at (a.levels - 1) s) s (a.at + 1) in
    let e = above_dictionary a.levels s a.at c.if-levels-eq0.false f in
    closed_wrote a.out.now a.to 100 inner (sorted_at a.levels s a.at) e c.requires c.put_bytes-o-then-b-eq100.new.out c.put_bytes-o-then-b-eq100.result c.put_bytes-o-then-b-eq100.ensures c.put_entries-o.new.out c.put_bytes-then-b-eq100.new.out c.put_entries-o.result c.put_bytes-then-b-eq100.result c.put_entries-o.ensures c.put_bytes-then-b-eq100.ensures

pub put_value-put_copy-requires-2 : goal.put_value-put_copy-requires-2
put_value-put_copy-requires-2 t c =
    let a = c.args in
    let s = a.s.now in
    omega (arith, ap length (above_copied a.levels s a.at c.if-levels-eq0.false (λ q. c.if-b-eq108.false (c.byte_at-b.ensures ∙ q)) (λ q. c.if-b-eq100.false (c.byte_at-b.ensures ∙ q))), c.requires)

pub put_value-returns : goal.put_value-returns
put_value-returns t c =
    let a = c.args in
    let s = a.s.now in
    subst (λ (x : List ℕ). Wrote a.out.now a.to x c.put_copy-2.new.out c.put_copy-2.result) (sym (above_copied a.levels s a.at c.if-levels-eq0.false (λ q. c.if-b-eq108.false (c.byte_at-b.ensures ∙ q)) (λ q. c.if-b-eq100.false (c.byte_at-b.ensures ∙ q)))) c.put_copy-2.ensures
