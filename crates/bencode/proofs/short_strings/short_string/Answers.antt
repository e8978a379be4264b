-- `bencode::short_strings::short_string` meets its contract: a law has what it finds.
-- Assumes nothing.
use native.Mathlib.Omega.{arith}
use Rattle.std.proofs.lemmas.Option.{IfSome_then}
use Rattle.bencode.proofs.scalars.ShortStringLaws.{one_digit_text}
use Rattle.bencode.proofs.short_strings.short_string.Goals as goal

pub returns-then-b-eq58 : goal.returns-then-b-eq58
returns-then-b-eq58 c =
    let a = c.args in
    let b = c.byte_at-a in
    let d = c.if-not-is_ascii_digit.ensures.cases in
    IfSome_then c.text_place.result c.text_place.ensures
    (λ p h. one_digit_text a.s.now a.at b.result b.ensures d.0 d.1 (omega (arith, c.byte_at-b.ensures)) p.start p.end (h.0, omega (arith, h.1), h.2))
