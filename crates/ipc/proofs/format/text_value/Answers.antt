-- `ipc::format::text_value` meets its contract.
-- Assumes nothing.
use mathlib.Core.Path.{sym, ◌∙◌}
use native.Mathlib.Omega.{arith}
use Rattle.bencode.proofs.walking.Ends.{string_whole_inv}
use Rattle.ipc.proofs.formats.FormatLaws.{text_good, text_off}
use Rattle.ipc.proofs.format.text_value.Goals as goal

pub overflow_add-result : goal.overflow_add-result
overflow_add-result c =
    let w = string_whole_inv c.args.p.now c.args.at c.in-Ok.text.start c.in-Ok.text.end (sym c.string.ensures ∙ c.in-Ok.is) in
    omega (arith, c.requires)

pub overflow_sub-result : goal.overflow_sub-result
overflow_sub-result c =
    let w = string_whole_inv c.args.p.now c.args.at c.in-Ok.text.start c.in-Ok.text.end (sym c.string.ensures ∙ c.in-Ok.is) in
    omega (arith, c.requires)

pub returns-in-Ok : goal.returns-in-Ok
returns-in-Ok c = text_good c.args.p.now c.args.at c.in-Ok.text.start c.in-Ok.text.end (sym c.string.ensures ∙ c.in-Ok.is)

pub returns-in-Err : goal.returns-in-Err
returns-in-Err c = text_off c.args.p.now c.args.at c.in-Err.field-0 (sym c.string.ensures ∙ c.in-Err.is)
