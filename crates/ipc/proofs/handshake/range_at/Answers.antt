-- `ipc::handshake::range_at` meets its contract.
-- Assumes nothing.
use mathlib.Core.Path.{sym, ◌∙◌}
use Rattle.octets.specs.Ascii.{ascii}
use Rattle.bencode.proofs.lookup.FieldLaws.{field_fits}
use Rattle.ipc.proofs.frames.HandshakeLaws.{range_missing_min, range_no_min, range_missing_max, range_no_max, range_integers}
use Rattle.ipc.proofs.handshake.range_at.Goals as goal

pub returns-in_err-field_of : goal.returns-in_err-field_of
unfolding ascii
returns-in_err-field_of c = c.from_residual.ensures ∙ sym (range_missing_min c.args.p.now c.args.from (sym c.field_of.ensures ∙ c.in_err-field_of.was))

pub returns-in_err-min : goal.returns-in_err-min
unfolding ascii
returns-in_err-min c = c.from_residual-in_err-min.ensures ∙ sym (range_no_min c.args.p.now c.args.from c.in_ok-field_of.field-0 (sym c.field_of.ensures ∙ c.in_ok-field_of.was) (sym c.integer.ensures ∙ c.in_err-min.was))

pub returns-in_err-field_of-2 : goal.returns-in_err-field_of-2
unfolding ascii
returns-in_err-field_of-2 c = c.from_residual-in_err-field_of-2.ensures ∙ sym (range_missing_max c.args.p.now c.args.from c.in_ok-field_of.field-0 (sym c.field_of.ensures ∙ c.in_ok-field_of.was) c.in_ok-min.min (sym c.integer.ensures ∙ c.in_ok-min.was) (sym c.field_of-2.ensures ∙ c.in_err-field_of-2.was))

pub returns-in_err-max : goal.returns-in_err-max
unfolding ascii
returns-in_err-max c = c.from_residual-in_err-max.ensures ∙ sym (range_no_max c.args.p.now c.args.from c.in_ok-field_of.field-0 (sym c.field_of.ensures ∙ c.in_ok-field_of.was) c.in_ok-min.min (sym c.integer.ensures ∙ c.in_ok-min.was) c.in_ok-field_of-2.field-0 (sym c.field_of-2.ensures ∙ c.in_ok-field_of-2.was) (sym c.integer-2.ensures ∙ c.in_err-max.was))

pub returns : goal.returns
unfolding ascii
returns c = c.new.ensures ∙ range_integers c.args.p.now c.args.from c.in_ok-field_of.field-0 (sym c.field_of.ensures ∙ c.in_ok-field_of.was) c.in_ok-min.min (sym c.integer.ensures ∙ c.in_ok-min.was) c.in_ok-field_of-2.field-0 (sym c.field_of-2.ensures ∙ c.in_ok-field_of-2.was) c.in_ok-max.max (sym c.integer-2.ensures ∙ c.in_ok-max.was)
    (field_fits c.args.p.now (ascii "min") c.args.from c.in_ok-field_of.field-0 c.in_ok-min.min (sym c.field_of.ensures ∙ c.in_ok-field_of.was) (sym c.integer.ensures ∙ c.in_ok-min.was))
    (field_fits c.args.p.now (ascii "max") c.args.from c.in_ok-field_of-2.field-0 c.in_ok-max.max (sym c.field_of-2.ensures ∙ c.in_ok-field_of-2.was) (sym c.integer-2.ensures ∙ c.in_ok-max.was))
