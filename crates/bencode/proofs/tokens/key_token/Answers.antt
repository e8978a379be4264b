-- `bencode::tokens::key_token` meets its contract: a law for each way.
-- Assumes nothing.
use mathlib.Core.Path.{sym, ap, ◌∙◌}
use native.Mathlib.Omega.{arith}
use Rattle.std.proofs.lemmas.Result.{err_from_is_err_and}
use Rattle.std.specs.Prelude.{Err}
use Rattle.bencode.specs.Tokens.{checked_token, text_token}
use Rattle.bencode.proofs.utf8.TextKeyLaws.{key_is_text, key_no_text, key_no_string}
use Rattle.bencode.proofs.walking.Ends.{string_whole_inv}
use Rattle.bencode.proofs.tokens.key_token.Goals as goal

pub returns-in_err-text : goal.returns-in_err-text
returns-in_err-text c =
    let a = c.args in
    let p = err_from_is_err_and c.from_residual.result c.from_residual.ensures.1 in
    rw (p.1, p.2) (ap (text_token a.profile a.s.now a.seen a.at) (key_no_string a.s.now a.at _ (sym c.string.ensures ∙ c.in_err-text.was)))

pub slice_bounds-is_text-count : goal.slice_bounds-is_text-count
slice_bounds-is_text-count c =
    let w = string_whole_inv c.args.s.now c.args.at c.in_ok-text.text.start c.in_ok-text.text.end (sym c.string.ensures ∙ c.in_ok-text.was) in
    w.ordered

pub slice_bounds-is_text-start : goal.slice_bounds-is_text-start
slice_bounds-is_text-start c =
    let w = string_whole_inv c.args.s.now c.args.at c.in_ok-text.text.start c.in_ok-text.text.end (sym c.string.ensures ∙ c.in_ok-text.was) in
    omega (arith, w.ordered, w.within)

pub slice_bounds-is_text-end : goal.slice_bounds-is_text-end
slice_bounds-is_text-end c =
    let w = string_whole_inv c.args.s.now c.args.at c.in_ok-text.text.start c.in_ok-text.text.end (sym c.string.ensures ∙ c.in_ok-text.was) in
    w.within

pub returns-then-not-is_text : goal.returns-then-not-is_text
returns-then-not-is_text c =
    let a = c.args in
    let s = a.s.now in
    ap Err c.ill_formed_key.ensures ∙ ap (text_token a.profile s a.seen a.at) (key_no_text s a.at c.in_ok-text.text.start c.in_ok-text.text.end (sym c.string.ensures ∙ c.in_ok-text.was) (sym c.is_text.ensures ∙ c.if-not-is_text.true))

pub check_key-requires-clause-inside : goal.check_key-requires-clause-inside
check_key-requires-clause-inside c =
    let w = string_whole_inv c.args.s.now c.args.at c.in_ok-text.text.start c.in_ok-text.text.end (sym c.string.ensures ∙ c.in_ok-text.was) in
    (w.ordered, w.within)

pub returns-in_err-seen : goal.returns-in_err-seen
returns-in_err-seen c =
    let a = c.args in
    let s = a.s.now in
    let key = key_is_text s a.at c.in_ok-text.text.start c.in_ok-text.text.end (sym c.string.ensures ∙ c.in_ok-text.was) (sym c.is_text.ensures ∙ c.if-not-is_text.false) in
    let p = err_from_is_err_and c.from_residual-in_err-seen.result c.from_residual-in_err-seen.ensures.1 in
    rw (p.1, p.2) (ap (checked_token c.in_ok-text.text.end) (sym c.in_err-seen.was ∙ c.check_key.ensures) ∙ ap (text_token a.profile s a.seen a.at) key)

pub returns : goal.returns
returns c =
    let a = c.args in
    let s = a.s.now in
    let key = key_is_text s a.at c.in_ok-text.text.start c.in_ok-text.text.end (sym c.string.ensures ∙ c.in_ok-text.was) (sym c.is_text.ensures ∙ c.if-not-is_text.false) in
    ap (checked_token c.in_ok-text.text.end) (sym c.in_ok-seen.was ∙ c.check_key.ensures) ∙ ap (text_token a.profile s a.seen a.at) key
