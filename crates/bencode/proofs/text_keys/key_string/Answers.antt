-- `bencode::text_keys::key_string` meets its contract: by the quick ways where they tell, else a law for each way.
-- Assumes nothing.
use mathlib.Core.Path.{sym, ap, ◌∙◌}
use native.Mathlib.Omega.{arith}
use Rattle.bencode.proofs.walking.Ends.{string_whole_inv}
use Rattle.bencode.proofs.utf8.TextKeyLaws.{key_is_text, key_no_text, key_no_string}
use Rattle.std.specs.Prelude.{Err}
use Rattle.std.proofs.lemmas.Result.{err_from_is_err_and}
use Rattle.bencode.proofs.text_keys.key_string.Goals as goal

pub is_plain-requires : goal.is_plain-requires
is_plain-requires c =
    let a = c.args in
    let t = c.in-Some.text in
    let w = string_whole_inv a.s.now a.at t.start t.end c.in-Some.ensures in
    (w.ordered, w.within)

pub returns-then-is_plain : goal.returns-then-is_plain
returns-then-is_plain c =
    let a = c.args in
    let t = c.in-Some.text in
    key_is_text a.s.now a.at t.start t.end c.in-Some.ensures (c.is_plain.ensures c.if-is_plain.true)

pub slice_bounds-is_text-count : goal.slice_bounds-is_text-count
slice_bounds-is_text-count c =
    let a = c.args in
    let w = string_whole_inv a.s.now a.at c.in_ok-text.text.start c.in_ok-text.text.end (sym c.string.ensures ∙ c.in_ok-text.was) in
    w.ordered

pub slice_bounds-is_text-start : goal.slice_bounds-is_text-start
slice_bounds-is_text-start c =
    let a = c.args in
    let w = string_whole_inv a.s.now a.at c.in_ok-text.text.start c.in_ok-text.text.end (sym c.string.ensures ∙ c.in_ok-text.was) in
    omega (arith, w.ordered, w.within)

pub slice_bounds-is_text-end : goal.slice_bounds-is_text-end
slice_bounds-is_text-end c =
    let a = c.args in
    let w = string_whole_inv a.s.now a.at c.in_ok-text.text.start c.in_ok-text.text.end (sym c.string.ensures ∙ c.in_ok-text.was) in
    w.within

pub returns-then-is_text : goal.returns-then-is_text
returns-then-is_text c =
    let a = c.args in
    let text = sym c.string.ensures ∙ c.in_ok-text.was in
    key_is_text a.s.now a.at c.in_ok-text.text.start c.in_ok-text.text.end text (sym c.is_text.ensures ∙ c.if-is_text.true)

pub returns : goal.returns
returns c =
    let a = c.args in
    let text = sym c.string.ensures ∙ c.in_ok-text.was in
    ap Err c.ill_formed_key.ensures ∙ key_no_text a.s.now a.at c.in_ok-text.text.start c.in_ok-text.text.end text (sym c.is_text.ensures ∙ c.if-is_text.false)

pub returns-in_err-text : goal.returns-in_err-text
returns-in_err-text c =
    let a = c.args in
    let p = err_from_is_err_and c.from_residual.result c.from_residual.ensures.1 in
    rw (p.1, p.2) (key_no_string a.s.now a.at _ (sym c.string.ensures ∙ c.in_err-text.was))
