-- `ipc::format::torrent_end` meets its contract.
-- Assumes nothing.
use mathlib.Core.Path.{sym, ◌∙◌}
use Prim.Native.Nat.{◌+◌}
use Rattle.octets.specs.Ascii.{ascii}
use Rattle.bencode.proofs.lookup.FieldLaws.{field_fits}
use Rattle.ipc.proofs.formats.FormatLaws.{torrent_other, torrent_missing_id, torrent_no_id, torrent_id}
use Rattle.ipc.proofs.format.torrent_end.Goals as goal

pub returns-then-byte_at-ne100 : goal.returns-then-byte_at-ne100
returns-then-byte_at-ne100 c = torrent_other c.args.p.now c.args.at (λ e. c.if-byte_at-ne100.true (c.byte_at.ensures ∙ e))

pub returns-in_err-field_of : goal.returns-in_err-field_of
unfolding ascii
returns-in_err-field_of c = c.from_residual.ensures ∙ sym (torrent_missing_id c.args.p.now c.args.at (sym c.byte_at.ensures ∙ c.if-byte_at-ne100.false) (sym c.field_of.ensures ∙ c.in_err-field_of.was))

pub returns-in_err-id : goal.returns-in_err-id
unfolding ascii
returns-in_err-id c = c.from_residual-in_err-id.ensures ∙ sym (torrent_no_id c.args.p.now c.args.at (sym c.byte_at.ensures ∙ c.if-byte_at-ne100.false) c.in_ok-field_of.field-0 (sym c.field_of.ensures ∙ c.in_ok-field_of.was) (sym c.integer.ensures ∙ c.in_err-id.was))

pub returns : goal.returns
unfolding ascii
returns c =
    let is = sym c.field_of.ensures ∙ c.in_ok-field_of.was in
    let told = sym c.integer.ensures ∙ c.in_ok-id.was in
    c.end_by_id.ensures ∙ torrent_id c.args.p.now c.args.at (sym c.byte_at.ensures ∙ c.if-byte_at-ne100.false) c.in_ok-field_of.field-0 is c.in_ok-id.id c.skip_rest.result told (field_fits c.args.p.now (ascii "id") (c.args.at + 1) c.in_ok-field_of.field-0 c.in_ok-id.id is told) c.skip_rest.ensures
