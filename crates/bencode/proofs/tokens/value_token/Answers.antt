-- `bencode::tokens::value_token` meets its contract: a law for each way, and what a class says of its byte by `ClassLaws`.
-- Assumes nothing.
use mathlib.Core.Path.{refl, sym, ap, ◌∙◌}
use Rattle.std.proofs.lemmas.Result.{err_from_is_err_and}
use Rattle.std.specs.Prelude.{Result}
use Rattle.bencode.specs.declared.fault.Fault.{Fault}
use Rattle.bencode.specs.declared.strings.Text.{Text}
use Rattle.bencode.specs.Strings.{text_end}
use Rattle.bencode.specs.Tokens.{scalar_token}
use Rattle.octets.specs.Bytes.{byte_at}
use Rattle.bencode.proofs.walking.ClassLaws.{class_is, class_is_not}
use Rattle.bencode.proofs.walking.TokenLaws.{value_opens_list, value_opens_dictionary, value_is_integer, value_is_string}
use Rattle.bencode.proofs.tokens.value_token.Goals as goal

pub returns-then-class-eq108 : goal.returns-then-class-eq108
returns-then-class-eq108 c =
    let a = c.args in
    let s = a.s.now in
    let b = byte_at s a.at in
    c.open_token.ensures ∙ value_opens_list s a.depth a.at (class_is 108 refl b (sym c.requires ∙ c.if-class-eq108.true))

pub returns-then-class-eq100 : goal.returns-then-class-eq100
returns-then-class-eq100 c =
    let a = c.args in
    let s = a.s.now in
    let b = byte_at s a.at in
    c.open_token-then-class-eq100.ensures ∙ value_opens_dictionary s a.depth a.at (class_is 100 refl b (sym c.requires ∙ c.if-class-eq100.true))

pub returns-then-class-eq105 : goal.returns-then-class-eq105
returns-then-class-eq105 c =
    let a = c.args in
    let b = byte_at a.s.now a.at in
    c.integer_token.ensures ∙ value_is_integer a.s.now a.depth a.at (class_is 105 refl b (sym c.requires ∙ c.if-class-eq105.true))

pub returns-in_err-text : goal.returns-in_err-text
returns-in_err-text c =
    let a = c.args in
    let b = byte_at a.s.now a.at in
    let p = err_from_is_err_and c.from_residual.result c.from_residual.ensures.1 in
    rw (p.1, p.2) (ap (λ (t : Result Text Fault). scalar_token (text_end t)) (sym c.in_err-text.was ∙ c.string.ensures) ∙ value_is_string a.s.now a.depth a.at (class_is_not 108 refl b (λ e. c.if-class-eq108.false (c.requires ∙ e))) (class_is_not 100 refl b (λ e. c.if-class-eq100.false (c.requires ∙ e))) (class_is_not 105 refl b (λ e. c.if-class-eq105.false (c.requires ∙ e))))

pub returns : goal.returns
returns c =
    let a = c.args in
    let b = byte_at a.s.now a.at in
    ap (λ (t : Result Text Fault). scalar_token (text_end t)) (sym c.in_ok-text.was ∙ c.string.ensures) ∙ value_is_string a.s.now a.depth a.at (class_is_not 108 refl b (λ e. c.if-class-eq108.false (c.requires ∙ e))) (class_is_not 100 refl b (λ e. c.if-class-eq100.false (c.requires ∙ e))) (class_is_not 105 refl b (λ e. c.if-class-eq105.false (c.requires ∙ e)))
