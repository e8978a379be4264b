-- `bencode::plain_text::plain_at` meets its contract: eight bytes are there, and they are plain.
-- Assumes nothing.
use native.Mathlib.Omega.{arith}
use mathlib.Core.Path.{ap, ◌∙◌}
use mathlib.Core.List.{List}
use Prim.Native.Nat.{ℕ}
use lib.ListN.{take, length-drop}
use Rattle.std.proofs.lemmas.List.{take_rest}
use Rattle.bencode.proofs.utf8.PlainLaws.{plain_chunk}
use Rattle.bencode.proofs.plain_text.plain_at.Goals as goal

pub returns-in-Some : goal.returns-in-Some
returns-in-Some c h =
    let chunk = c.in-Some.ensures.cases in
    (omega (arith, chunk.enough, length-drop c.args.at c.args.s.now, take_rest c.args.s.now c.args.at), plain_chunk c.args.s.now c.args.at c.in-Some.bytes.now (chunk.same ∙ ap (λ (x : List ℕ). take 8 x) (take_rest c.args.s.now c.args.at)) (c.are_plain.ensures h))
