-- `bencode::plain_text::are_plain` meets its contract: where both tests pass, `read_plain` has it.
-- Assumes nothing.
use Prim.Native.Nat.{◌+◌}
use mathlib.Core.Path.{sym, ap, ◌∙◌}
use native.Mathlib.Omega.{arith}
use borrow.Author.Rules.{rules}
use borrow.Author.Tests.{eqb-true}
use lib.Bits.{bit_and}
use Rattle.bencode.proofs.utf8.WordLaws.{read_room, read_plain}
use Rattle.bencode.proofs.plain_text.are_plain.Goals as goal

pub overflow_add-result : goal.overflow_add-result
overflow_add-result c =
    let w = c.from_le_bytes-w.ensures in
    let z = ap (λ (x : _). bit_and x 0x8080808080808080) (sym w) ∙ c.if-w-eq0.true in
    omega (arith, read_room c.args.bytes.now (λ k h. search rules) z, w)

pub returns-then-w-eq0 : goal.returns-then-w-eq0
returns-then-w-eq0 c h =
    let w = c.from_le_bytes-w.ensures in
    let z = ap (λ (x : _). bit_and x 0x8080808080808080) (sym w) ∙ c.if-w-eq0.true in
    let y = ap (λ (x : _). bit_and (x + 0x7F7F7F7F7F7F7F7F) 0x8080808080808080) (sym w) ∙ eqb-true _ _ h in
    read_plain c.args.bytes.now (λ k h. search rules) z y
