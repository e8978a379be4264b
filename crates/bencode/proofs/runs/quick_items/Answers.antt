-- `bencode::runs::quick_items` meets its contract: a list goes on after its strings and after its integers.
-- Assumes nothing.
use mathlib.Core.Path.{sym, subst}
use Rattle.bencode.proofs.lookup.RunLaws.{Onward, text_run_list, string_list, positive_run_list, integer_list}
use Rattle.bencode.proofs.runs.quick_items.Goals as goal

pub returns-then-at-end : goal.returns-then-at-end
returns-then-at-end c =
    let l = c.if-at-end.true in
    (l, text_run_list c.args.s.now c.args.at c.short_texts-end.result c.short_texts-end.ensures l)

pub returns-then-class-eq48 : goal.returns-then-class-eq48
returns-then-class-eq48 c = subst (Onward c.args.s.now c.args.at) (sym c.after_string.ensures) (string_list c.args.s.now c.args.at)

pub returns-then-at-end-2 : goal.returns-then-at-end-2
returns-then-at-end-2 c =
    let l = c.if-at-end-2.true in
    (l, positive_run_list 9223372036854775807 c.args.s.now c.args.at c.plain_positives-end.result c.plain_positives-end.ensures l)

pub returns-then-class-eq105 : goal.returns-then-class-eq105
returns-then-class-eq105 c = subst (Onward c.args.s.now c.args.at) (sym c.after_integer.ensures) (integer_list c.args.s.now c.args.at)
