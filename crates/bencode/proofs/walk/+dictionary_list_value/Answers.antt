-- The proof of the cycle of calls {dictionary, list, value}. The measure of `value` is twice the levels left; `list` and
-- `dictionary` are called with one level less left and call `value` with as many, so theirs lie between.
-- In the loops the bytes left fall. Their invariants say that what is left to walk comes to the same as the whole; for a
-- dictionary also that `seen` is what is kept of the keys so far.
-- Each return cites the law of `WalkLaws` for that way, and what a class says of its byte by `ClassLaws`. Nothing here says which
-- keys are allowed: that is `KeyLaws`.
-- Assumes nothing.
use Prim.Native.Nat.{ℕ, ◌+◌}
use mathlib.Core.Path.{refl, sym, ap, subst, ◌∙◌}
use mathlib.Core.List.{[], ◌∷◌}
use native.Mathlib.Omega.{arith}
use Rattle.bencode.specs.declared.depth.Depth.{Depth}
use Rattle.bencode.specs.declared.fault.Cause.{Cause}
use Rattle.bencode.specs.declared.key.Seen.{Seen}
use Rattle.octets.specs.Bytes.{byte_at, slice}
use Rattle.bencode.specs.Depth.{levels_left}
use Rattle.bencode.specs.Entry.{entry_at}
use Rattle.bencode.specs.Walk.{value_at, dictionary_at}
use Rattle.octets.proofs.digits.NumeralLaws.{inside}
use Rattle.bencode.proofs.walking.ClassLaws.{class_is, class_is_not}
use Rattle.bencode.proofs.walking.Ends.{string_whole_inv}
use Rattle.bencode.proofs.walking.WalkLaws.{value_ends, value_scalar, value_list, value_dictionary, value_deep_list, value_deep_dictionary, scalar_value, list_end, list_fault_lem, list_more, dictionary_end, dictionary_no_key, dictionary_refused, dictionary_fault, dictionary_more}
use Rattle.bencode.proofs.lookup.RecordLaws.{Looked, looked_more, noted_end, noted_fault, noted_ok, noted_err}
use Rattle.bencode.proofs.walking.DepthLaws.{deeper_left, too_deep_left}
use Rattle.bencode.proofs.utf8.TextKeyLaws.{key_stands}
use Rattle.bencode.proofs.walking.KeyLaws.{Kept, kept_none, key_allowed, key_refused}
use Rattle.bencode.specs.Fault.{fault}
use Rattle.std.proofs.lemmas.Result.{err_from_is_err_and}
use Rattle.std.specs.Prelude.{Option, ok_or}
use Rattle.bencode.proofs.walk.+dictionary_list_value.Goals as goal

pub dictionary-loop-at-init : goal.dictionary-loop-at-init
dictionary-loop-at-init t c =
    let a = c.args in
    let s = a.s.now in
    let value = value_at a.profile (levels_left a.depth) s in
    ([], subst (λ (x : Seen). Kept value s x a.from []) (sym c.none-seen.ensures) (kept_none value s a.from), refl, refl)

pub dictionary-overflow_add-result : goal.dictionary-overflow_add-result
dictionary-overflow_add-result t c =
    let a = c.args in
    let s = a.s.now in
    let levels = levels_left a.depth in
    let l = c.loop-at in
    let e = class_is 101 refl (byte_at s l.at) (sym c.at.ensures ∙ c.if-at-eq101.true) in
    omega (arith, inside s l.at (omega (arith, e)))

pub dictionary-returns-then-at-eq101 : goal.dictionary-returns-then-at-eq101
dictionary-returns-then-at-eq101 t c =
    let a = c.args in
    let s = a.s.now in
    let levels = levels_left a.depth in
    let l = c.loop-at in
    let e = class_is 101 refl (byte_at s l.at) (sym c.at.ensures ∙ c.if-at-eq101.true) in
    noted_end a.profile levels s a.key.now a.from l.at l.found l.invariant.3 e (dictionary_end a.profile levels s l.at l.invariant.0 e ∙ l.invariant.2)

pub dictionary-returns-in_err-text : goal.dictionary-returns-in_err-text
dictionary-returns-in_err-text t c =
    let a = c.args in
    let s = a.s.now in
    let levels = levels_left a.depth in
    let l = c.loop-at in
    let more = class_is_not 101 refl (byte_at s l.at) (λ e. c.if-at-eq101.false (c.at.ensures ∙ e)) in
    let p = err_from_is_err_and c.from_residual.result c.from_residual.ensures.1 in
    rw (p.1, p.2) (noted_fault (dictionary_at a.profile levels s a.from) (entry_at s a.key.now a.from) _ (dictionary_no_key a.profile levels s l.at l.invariant.0 more _ (sym c.key_string.ensures ∙ c.in_err-text.was) ∙ l.invariant.2))

pub dictionary-check_key-requires : goal.dictionary-check_key-requires
dictionary-check_key-requires t c =
    let a = c.args in
    let s = a.s.now in
    let levels = levels_left a.depth in
    let l = c.loop-at in
    let is = key_stands s l.at c.in_ok-text.text.start c.in_ok-text.text.end (sym c.key_string.ensures ∙ c.in_ok-text.was) in
    let w = string_whole_inv s l.at c.in_ok-text.text.start c.in_ok-text.text.end is.0 in
    record { inside = (w.ordered, w.within); sound = (l.invariant.1.ordered, l.invariant.1.within) }

pub dictionary-returns-in_err-seen : goal.dictionary-returns-in_err-seen
dictionary-returns-in_err-seen t c =
    let a = c.args in
    let s = a.s.now in
    let levels = levels_left a.depth in
    let l = c.loop-at in
    let more = class_is_not 101 refl (byte_at s l.at) (λ e. c.if-at-eq101.false (c.at.ensures ∙ e)) in
    let is = key_stands s l.at c.in_ok-text.text.start c.in_ok-text.text.end (sym c.key_string.ensures ∙ c.in_ok-text.was) in
    let no = key_refused a.profile levels s l.seen l.at l.invariant.0 l.invariant.1 c.in_ok-text.text.start c.in_ok-text.text.end is.0 is.1 c.in_err-seen.field-0.0 (sym c.check_key.ensures ∙ c.in_err-seen.was) in
    let p = err_from_is_err_and c.from_residual-in_err-seen.result c.from_residual-in_err-seen.ensures.1 in
    rw (p.1, p.2, ← no.2) (noted_fault (dictionary_at a.profile levels s a.from) (entry_at s a.key.now a.from) (fault no.0 l.at) (dictionary_refused a.profile levels s l.at l.invariant.0 more c.in_ok-text.text.start c.in_ok-text.text.end is.0 no.0 no.1 ∙ l.invariant.2))

pub dictionary-found_after-found-requires : goal.dictionary-found_after-found-requires
dictionary-found_after-found-requires t c =
    let a = c.args in
    let s = a.s.now in
    let l = c.loop-at in
    let is = key_stands s l.at c.in_ok-text.text.start c.in_ok-text.text.end (sym c.key_string.ensures ∙ c.in_ok-text.was) in
    let w = string_whole_inv s l.at c.in_ok-text.text.start c.in_ok-text.text.end is.0 in
    (w.ordered, w.within)

pub dictionary-loop-at-smaller-in-Some : goal.dictionary-loop-at-smaller-in-Some
dictionary-loop-at-smaller-in-Some t c =
    let a = c.args in
    let s = a.s.now in
    let levels = levels_left a.depth in
    let l = c.loop-at in
    let is = key_stands s l.at c.in_ok-text.text.start c.in_ok-text.text.end (sym c.key_string.ensures ∙ c.in_ok-text.was) in
    let v = scalar_value a.profile levels s c.in_ok-text.text.end c.in-Some.after c.in-Some.ensures in
    let w = string_whole_inv s l.at c.in_ok-text.text.start c.in_ok-text.text.end is.0 in
    omega (arith, value_ends a.profile levels s c.in_ok-text.text.end c.in-Some.after v)

pub dictionary-loop-at-preserved-in-Some : goal.dictionary-loop-at-preserved-in-Some
dictionary-loop-at-preserved-in-Some t c =
    let a = c.args in
    let s = a.s.now in
    let levels = levels_left a.depth in
    let l = c.loop-at in
    let more = class_is_not 101 refl (byte_at s l.at) (λ e. c.if-at-eq101.false (c.at.ensures ∙ e)) in
    let is = key_stands s l.at c.in_ok-text.text.start c.in_ok-text.text.end (sym c.key_string.ensures ∙ c.in_ok-text.was) in
    let ok = key_allowed a.profile levels s l.seen l.at l.invariant.0 l.invariant.1 c.in_ok-text.text.start c.in_ok-text.text.end is.0 is.1 c.in_ok-seen.seen (sym c.check_key.ensures ∙ c.in_ok-seen.was) in
    let v = scalar_value a.profile levels s c.in_ok-text.text.end c.in-Some.after c.in-Some.ensures in
    let looked = looked_more a.profile levels s a.key.now a.from l.at l.found l.invariant.3 c.in_ok-text.text.start c.in_ok-text.text.end c.in-Some.after is.0 v in (
      slice s c.in_ok-text.text.start c.in_ok-text.text.end ∷ l.invariant.0,
      ok.1 c.in-Some.after v,
      dictionary_more a.profile levels s l.at l.invariant.0 more c.in_ok-text.text.start c.in_ok-text.text.end is.0 ok.0 c.in-Some.after v ∙ l.invariant.2,
      subst (λ (x : Option ℕ). Looked s a.key.now a.from c.in-Some.after x) (sym c.found_after-found.ensures) looked,
    )

pub dictionary-value-requires : goal.dictionary-value-requires
dictionary-value-requires t c = (omega arith, c.requires)

pub dictionary-loop-at-smaller : goal.dictionary-loop-at-smaller
dictionary-loop-at-smaller t c =
    let a = c.args in
    let s = a.s.now in
    let levels = levels_left a.depth in
    let l = c.loop-at in
    let is = key_stands s l.at c.in_ok-text.text.start c.in_ok-text.text.end (sym c.key_string.ensures ∙ c.in_ok-text.was) in
    let v = sym c.value.ensures ∙ c.in_ok-at.was in
    let w = string_whole_inv s l.at c.in_ok-text.text.start c.in_ok-text.text.end is.0 in
    omega (arith, value_ends a.profile levels s c.in_ok-text.text.end c.in_ok-at.at v)

pub dictionary-loop-at-preserved : goal.dictionary-loop-at-preserved
dictionary-loop-at-preserved t c =
    let a = c.args in
    let s = a.s.now in
    let levels = levels_left a.depth in
    let l = c.loop-at in
    let more = class_is_not 101 refl (byte_at s l.at) (λ e. c.if-at-eq101.false (c.at.ensures ∙ e)) in
    let is = key_stands s l.at c.in_ok-text.text.start c.in_ok-text.text.end (sym c.key_string.ensures ∙ c.in_ok-text.was) in
    let ok = key_allowed a.profile levels s l.seen l.at l.invariant.0 l.invariant.1 c.in_ok-text.text.start c.in_ok-text.text.end is.0 is.1 c.in_ok-seen.seen (sym c.check_key.ensures ∙ c.in_ok-seen.was) in
    let v = sym c.value.ensures ∙ c.in_ok-at.was in
    let looked = looked_more a.profile levels s a.key.now a.from l.at l.found l.invariant.3 c.in_ok-text.text.start c.in_ok-text.text.end c.in_ok-at.at is.0 v in (
      slice s c.in_ok-text.text.start c.in_ok-text.text.end ∷ l.invariant.0,
      ok.1 c.in_ok-at.at v,
      dictionary_more a.profile levels s l.at l.invariant.0 more c.in_ok-text.text.start c.in_ok-text.text.end is.0 ok.0 c.in_ok-at.at v ∙ l.invariant.2,
      subst (λ (x : Option ℕ). Looked s a.key.now a.from c.in_ok-at.at x) (sym c.found_after-found.ensures) looked,
    )

pub dictionary-returns-in_err-at : goal.dictionary-returns-in_err-at
dictionary-returns-in_err-at t c =
    let a = c.args in
    let s = a.s.now in
    let levels = levels_left a.depth in
    let l = c.loop-at in
    let more = class_is_not 101 refl (byte_at s l.at) (λ e. c.if-at-eq101.false (c.at.ensures ∙ e)) in
    let is = key_stands s l.at c.in_ok-text.text.start c.in_ok-text.text.end (sym c.key_string.ensures ∙ c.in_ok-text.was) in
    let ok = key_allowed a.profile levels s l.seen l.at l.invariant.0 l.invariant.1 c.in_ok-text.text.start c.in_ok-text.text.end is.0 is.1 c.in_ok-seen.seen (sym c.check_key.ensures ∙ c.in_ok-seen.was) in
    let p = err_from_is_err_and c.from_residual-in_err-at.result c.from_residual-in_err-at.ensures.1 in
    rw (p.1, p.2) (noted_fault (dictionary_at a.profile levels s a.from) (entry_at s a.key.now a.from) _ (dictionary_fault a.profile levels s l.at l.invariant.0 more c.in_ok-text.text.start c.in_ok-text.text.end is.0 ok.0 _ (sym c.value.ensures ∙ c.in_err-at.was) ∙ l.invariant.2))

pub list-loop-depth-init : goal.list-loop-depth-init
list-loop-depth-init t c = refl

pub list-overflow_add-result : goal.list-overflow_add-result
list-overflow_add-result t c =
    let a = c.args in
    let s = a.s.now in
    let levels = levels_left a.depth in
    let l = c.loop-depth in
    let e = class_is 101 refl (byte_at s l.at) (sym c.at-class.ensures ∙ c.if-class-eq101.true) in
    omega (arith, inside s l.at (omega (arith, e)))

pub list-returns-then-class-eq101 : goal.list-returns-then-class-eq101
list-returns-then-class-eq101 t c =
    let a = c.args in
    let s = a.s.now in
    let levels = levels_left a.depth in
    let l = c.loop-depth in
    list_end a.profile levels s l.at (class_is 101 refl (byte_at s l.at) (sym c.at-class.ensures ∙ c.if-class-eq101.true)) ∙ l.invariant

pub list-loop-depth-smaller-in-Some : goal.list-loop-depth-smaller-in-Some
list-loop-depth-smaller-in-Some t c = omega (arith, c.in-Some.ensures.0, c.in-Some.ensures.1.0)

pub list-loop-depth-preserved-in-Some : goal.list-loop-depth-preserved-in-Some
list-loop-depth-preserved-in-Some t c =
    let a = c.args in
    let l = c.loop-depth in
    c.in-Some.ensures.1.1 a.profile (levels_left a.depth) ∙ l.invariant

pub list-value-requires : goal.list-value-requires
list-value-requires t c = (omega arith, c.requires)

pub list-loop-depth-smaller : goal.list-loop-depth-smaller
list-loop-depth-smaller t c =
    let a = c.args in
    let s = a.s.now in
    let levels = levels_left a.depth in
    let l = c.loop-depth in
    omega (arith, value_ends a.profile levels s l.at c.in_ok-at.at (sym c.value.ensures ∙ c.in_ok-at.was))

pub list-loop-depth-preserved : goal.list-loop-depth-preserved
list-loop-depth-preserved t c =
    let a = c.args in
    let s = a.s.now in
    let levels = levels_left a.depth in
    let l = c.loop-depth in
    let more = class_is_not 101 refl (byte_at s l.at) (λ e. c.if-class-eq101.false (c.at-class.ensures ∙ e)) in
    list_more a.profile levels s l.at more c.in_ok-at.at (sym c.value.ensures ∙ c.in_ok-at.was) ∙ l.invariant

pub list-returns-in_err-at : goal.list-returns-in_err-at
list-returns-in_err-at t c =
    let a = c.args in
    let s = a.s.now in
    let levels = levels_left a.depth in
    let l = c.loop-depth in
    let more = class_is_not 101 refl (byte_at s l.at) (λ e. c.if-class-eq101.false (c.at-class.ensures ∙ e)) in
    let p = err_from_is_err_and c.from_residual.result c.from_residual.ensures.1 in
    rw (p.1, p.2) (list_fault_lem a.profile levels s l.at more _ (sym c.value.ensures ∙ c.in_err-at.was) ∙ l.invariant)

pub value-overflow_add-at : goal.value-overflow_add-at
value-overflow_add-at t c =
    let a = c.args in
    let s = a.s.now in
    let levels = levels_left a.depth in
    let e = class_is 108 refl (byte_at s a.at) (sym c.at-class.ensures ∙ c.if-class-eq108.true) in
    omega (arith, inside s a.at (omega (arith, e)))

pub value-returns-in_err-inner : goal.value-returns-in_err-inner
value-returns-in_err-inner t c =
    let a = c.args in
    let s = a.s.now in
    let d = too_deep_left a.depth _ _ (ap (λ (o : Option Depth). ok_or o (fault Cause.Depth a.at)) (sym c.nested.ensures) ∙ sym c.ok_or.ensures.value ∙ c.in_err-inner.was) in
    let p = err_from_is_err_and c.from_residual.result c.from_residual.ensures.1 in
    rw (p.1, p.2, ← d.1) (value_deep_list a.profile (levels_left a.depth) s a.at d.0 (class_is 108 refl (byte_at s a.at) (sym c.at-class.ensures ∙ c.if-class-eq108.true)))

pub value-list-requires : goal.value-list-requires
value-list-requires t c =
    let d = deeper_left c.args.depth c.in_ok-inner.inner (fault Cause.Depth c.args.at) (ap (λ (o : Option Depth). ok_or o (fault Cause.Depth c.args.at)) (sym c.nested.ensures) ∙ sym c.ok_or.ensures.value ∙ c.in_ok-inner.was) in
    (omega arith, d.1)

pub value-returns-then-class-eq108 : goal.value-returns-then-class-eq108
value-returns-then-class-eq108 t c =
    let a = c.args in
    let s = a.s.now in
    let d = deeper_left a.depth c.in_ok-inner.inner (fault Cause.Depth a.at) (ap (λ (o : Option Depth). ok_or o (fault Cause.Depth a.at)) (sym c.nested.ensures) ∙ sym c.ok_or.ensures.value ∙ c.in_ok-inner.was) in
    c.list.ensures ∙ value_list a.profile (levels_left a.depth) (levels_left c.in_ok-inner.inner) s a.at d.0 (class_is 108 refl (byte_at s a.at) (sym c.at-class.ensures ∙ c.if-class-eq108.true))

pub value-returns-in_err-inner-2 : goal.value-returns-in_err-inner-2
value-returns-in_err-inner-2 t c =
    let a = c.args in
    let s = a.s.now in
    let d = too_deep_left a.depth _ _ (ap (λ (o : Option Depth). ok_or o (fault Cause.Depth a.at)) (sym c.nested-then-class-eq100.ensures) ∙ sym c.ok_or-then-class-eq100.ensures.value ∙ c.in_err-inner-2.was) in
    let p = err_from_is_err_and c.from_residual-in_err-inner-2.result c.from_residual-in_err-inner-2.ensures.1 in
    rw (p.1, p.2, ← d.1) (value_deep_dictionary a.profile (levels_left a.depth) s a.at d.0 (class_is 100 refl (byte_at s a.at) (sym c.at-class.ensures ∙ c.if-class-eq100.true)))

pub value-overflow_add-at-then-class-eq100 : goal.value-overflow_add-at-then-class-eq100
value-overflow_add-at-then-class-eq100 t c =
    let a = c.args in
    let s = a.s.now in
    let e = class_is 100 refl (byte_at s a.at) (sym c.at-class.ensures ∙ c.if-class-eq100.true) in
    omega (arith, inside s a.at (omega (arith, e)))

pub value-dictionary-requires : goal.value-dictionary-requires
value-dictionary-requires t c =
    let d = deeper_left c.args.depth c.in_ok-inner-2.inner (fault Cause.Depth c.args.at) (ap (λ (o : Option Depth). ok_or o (fault Cause.Depth c.args.at)) (sym c.nested-then-class-eq100.ensures) ∙ sym c.ok_or-then-class-eq100.ensures.value ∙ c.in_ok-inner-2.was) in
    (omega arith, d.1)

pub value-returns-in_err-dictionary : goal.value-returns-in_err-dictionary
value-returns-in_err-dictionary t c =
    let a = c.args in
    let s = a.s.now in
    let d = deeper_left a.depth c.in_ok-inner-2.inner (fault Cause.Depth a.at) (ap (λ (o : Option Depth). ok_or o (fault Cause.Depth a.at)) (sym c.nested-then-class-eq100.ensures) ∙ sym c.ok_or-then-class-eq100.ensures.value ∙ c.in_ok-inner-2.was) in
    let w = noted_err (dictionary_at a.profile (levels_left c.in_ok-inner-2.inner) s (a.at + 1)) (entry_at s [] (a.at + 1)) c.in_err-dictionary.field-0.0 (sym c.dictionary.ensures ∙ c.in_err-dictionary.was) in
    let p = err_from_is_err_and c.from_residual-in_err-dictionary.result c.from_residual-in_err-dictionary.ensures.1 in
    rw (p.1, p.2) (sym w ∙ value_dictionary a.profile (levels_left a.depth) (levels_left c.in_ok-inner-2.inner) s a.at d.0 (class_is 100 refl (byte_at s a.at) (sym c.at-class.ensures ∙ c.if-class-eq100.true)))

pub value-returns-then-class-eq100 : goal.value-returns-then-class-eq100
value-returns-then-class-eq100 t c =
    let a = c.args in
    let s = a.s.now in
    let d = deeper_left a.depth c.in_ok-inner-2.inner (fault Cause.Depth a.at) (ap (λ (o : Option Depth). ok_or o (fault Cause.Depth a.at)) (sym c.nested-then-class-eq100.ensures) ∙ sym c.ok_or-then-class-eq100.ensures.value ∙ c.in_ok-inner-2.was) in
    let w = noted_ok (dictionary_at a.profile (levels_left c.in_ok-inner-2.inner) s (a.at + 1)) (entry_at s [] (a.at + 1)) c.in_ok-dictionary.field-0 (sym c.dictionary.ensures ∙ c.in_ok-dictionary.was) in
    sym w ∙ value_dictionary a.profile (levels_left a.depth) (levels_left c.in_ok-inner-2.inner) s a.at d.0 (class_is 100 refl (byte_at s a.at) (sym c.at-class.ensures ∙ c.if-class-eq100.true))

pub value-returns : goal.value-returns
value-returns t c =
    let a = c.args in
    let s = a.s.now in
    let levels = levels_left a.depth in
    let b = byte_at s a.at in
    c.scalar_end.ensures ∙ value_scalar a.profile levels s a.at (class_is_not 108 refl b (λ e. c.if-class-eq108.false (c.at-class.ensures ∙ e))) (class_is_not 100 refl b (λ e. c.if-class-eq100.false (c.at-class.ensures ∙ e)))
