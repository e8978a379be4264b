-- `bencode::scalar::quick_scalar` meets its contract: its readers have what it finds.
-- Assumes nothing.
use mathlib.Core.Path.{refl, sym, ◌∙◌}
use borrow.Author.Tests.{eq-eqb, ne_eqb}
use Rattle.std.proofs.lemmas.Option.{IfSome_then}
use Rattle.octets.specs.Bytes.{byte_at}
use Rattle.bencode.specs.Scalar.{scalar_at}
use Rattle.bencode.proofs.scalar.quick_scalar.Goals as goal

pub returns-then-byte_at-eq105 : goal.returns-then-byte_at-eq105
unfolding scalar_at
returns-then-byte_at-eq105 c =
    let a = c.args in
    IfSome_then c.plain_end.result c.plain_end.ensures
    (λ end h. rw (eq-eqb (byte_at a.s.now a.at) 105 (sym c.byte_at.ensures ∙ c.if-byte_at-eq105.true)) h)

pub returns : goal.returns
unfolding scalar_at
returns c =
    let a = c.args in
    rw (ne_eqb (byte_at a.s.now a.at) 105 (λ e. c.if-byte_at-eq105.false (c.byte_at.ensures ∙ e)), c.in_ok-short_string.ensures) refl
