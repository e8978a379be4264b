-- `canonical::select::Entries::next` meets its contract.
-- Assumes nothing.
use mathlib.Core.Path.{refl, sym, ap, ◌∙◌}
use native.Mathlib.Omega.{arith}
use Rattle.bencode.specs.Strings.{string_at}
use Rattle.bencode.specs.Skip.{skip_value}
use Rattle.bencode.proofs.walking.Ends.{string_whole_inv}
use Rattle.canonical.proofs.walks.Steps.{entry_past}
use Rattle.canonical.proofs.select.EntriesIterator.next.Goals as goal

pub returns-in-Err-clause-steps : goal.returns-in-Err-clause-steps
returns-in-Err-clause-steps c =
    let s = c.args.self.now.s.now in
    (refl, (c.in-Err.field-0, ap (string_at s) (sym c.offset-at.ensures) ∙ sym c.string.ensures ∙ c.in-Err.is))

pub returns-in-Ok-clause-steps : goal.returns-in-Ok-clause-steps
returns-in-Ok-clause-steps c =
    let s = c.args.self.now.s.now in
    let text = sym c.string.ensures ∙ c.in-Ok.is in
    let w = string_whole_inv s c.offset-at.result c.in-Ok.text.start c.in-Ok.text.end text in
    (refl, (ap (string_at s) (sym c.offset-at.ensures) ∙ text, c.offset-at.ensures, refl, omega (arith, w.starts), (omega (arith, w.starts, w.ordered, w.within), w.ordered, w.within)))

pub returns-in-Ok-clause-goes : goal.returns-in-Ok-clause-goes
returns-in-Ok-clause-goes c =
    let s = c.args.self.now.s.now in
    let end = c.in-Ok.text.end in
    let past = entry_past s c.offset-at.result c.in-Ok.text.start end (skip_value s end) (sym c.string.ensures ∙ c.in-Ok.is) refl in
    record { on = λ _. (tt, tt, omega (arith, past, c.offset-at.ensures)); keeps = tt; rests = λ _. tt }
