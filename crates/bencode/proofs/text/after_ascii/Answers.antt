-- `bencode::text::after_ascii` meets its contract: eight bytes of ASCII further the text is the same.
-- Assumes nothing.
use mathlib.Core.Path.{ap, ◌∙◌}
use native.Mathlib.Omega.{arith}
use lib.ListN.{length-drop}
use Rattle.std.proofs.lemmas.List.{take_rest}
use Rattle.bencode.specs.Utf8.{text_from}
use Rattle.bencode.proofs.utf8.PlainLaws.{eight_further}
use Rattle.bencode.proofs.text.after_ascii.Goals as goal

pub returns-then-plain_at : goal.returns-then-plain_at
returns-then-plain_at c =
    let x = c.args.rest.now in
    let left = c.args.left in
    let p = c.plain_at.ensures c.if-plain_at.true in
    let e = take_rest x 8 in
    (rw e (omega (arith, length-drop 8 x)), λ low high. ap (text_from left low high) e ∙ eight_further x 0 left c.if-left-eq0.true p.0 p.1 low high)
