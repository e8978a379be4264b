-- `bencode::scalar::after_scalar` meets its contract: a string by `short_string` where that found one, else by `after_string`.
-- Assumes nothing.
use mathlib.Core.Path.{refl, sym, ◌∙◌}
use borrow.Author.Tests.{eq-eqb, ne_eqb}
use Rattle.octets.specs.Bytes.{byte_at}
use Rattle.bencode.specs.Scalar.{scalar_at}
use Rattle.bencode.proofs.scalar.after_scalar.Goals as goal

pub returns-then-byte_at-eq105 : goal.returns-then-byte_at-eq105
unfolding scalar_at
returns-then-byte_at-eq105 c =
    let a = c.args in
    let s = a.s.now in
    c.after_integer.ensures ∙ sym (rw (eq-eqb (byte_at s a.at) 105 (sym c.byte_at.ensures ∙ c.if-byte_at-eq105.true)) refl)

pub returns-in-Some : goal.returns-in-Some
unfolding scalar_at
returns-in-Some c =
    let a = c.args in
    let s = a.s.now in
    sym (rw (ne_eqb (byte_at s a.at) 105 (λ e. c.if-byte_at-eq105.false (c.byte_at.ensures ∙ e)), c.in-Some.ensures) refl)

pub returns : goal.returns
unfolding scalar_at
returns c =
    let a = c.args in
    let s = a.s.now in
    c.after_string.ensures ∙ sym (rw (ne_eqb (byte_at s a.at) 105 (λ e. c.if-byte_at-eq105.false (c.byte_at.ensures ∙ e))) refl)
