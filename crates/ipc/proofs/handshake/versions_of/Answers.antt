-- `ipc::handshake::versions_of` meets its contract.
-- Assumes nothing.
use mathlib.Core.Path.{refl, sym, ap, ◌∙◌}
use Rattle.std.specs.Prelude.{Some}
use Rattle.octets.specs.Ascii.{ascii}
use Rattle.bencode.proofs.lookup.FieldLaws.{field_fits}
use Rattle.ipc.proofs.frames.HandshakeLaws.{versions_missing, versions_integer, versions_dictionary, versions_text, versions_list}
use Rattle.ipc.proofs.handshake.versions_of.Goals as goal

pub returns-in_err-value : goal.returns-in_err-value
unfolding ascii
returns-in_err-value c = c.from_residual.ensures ∙ sym (versions_missing c.args.p.now (sym c.field_of.ensures ∙ c.in_err-value.was))

pub returns-in-Integer : goal.returns-in-Integer
unfolding ascii
returns-in-Integer c =
    let is = sym c.field_of.ensures ∙ c.in_ok-value.was ∙ ap Some c.in-Integer.is in
    c.new.ensures ∙ versions_integer c.args.p.now c.in-Integer.value c.in-Integer.end is (field_fits c.args.p.now (ascii "version") 1 _ (record { value = c.in-Integer.value; end = c.in-Integer.end }) is refl)

pub returns-in-Dictionary : goal.returns-in-Dictionary
unfolding ascii
returns-in-Dictionary c = c.range_at.ensures ∙ versions_dictionary c.args.p.now c.in-Dictionary.from (sym c.field_of.ensures ∙ c.in_ok-value.was ∙ ap Some c.in-Dictionary.is)

pub returns-in-Text : goal.returns-in-Text
unfolding ascii
returns-in-Text c = versions_text c.args.p.now c.in-Text.start c.in-Text.end (sym c.field_of.ensures ∙ c.in_ok-value.was ∙ ap Some c.in-Text.is)

pub returns-in-List : goal.returns-in-List
unfolding ascii
returns-in-List c = versions_list c.args.p.now _ (sym c.field_of.ensures ∙ c.in_ok-value.was ∙ ap Some c.in-List.is)
