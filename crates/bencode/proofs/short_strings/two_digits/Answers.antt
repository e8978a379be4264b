-- `bencode::short_strings::two_digits` meets its contract: one law has what it finds.
-- Assumes nothing.
use native.Mathlib.Omega.{arith}
use Rattle.std.proofs.lemmas.Option.{IfSome_then}
use Rattle.bencode.proofs.scalars.ShortStringLaws.{two_digits_text}
use Rattle.bencode.proofs.short_strings.two_digits.Goals as goal

pub returns : goal.returns
returns c =
    let a = c.args in
    let k = c.requires in
    let b = c.if-not-is_ascii_digit.ensures.cases in
    IfSome_then c.text_place.result c.text_place.ensures
    (λ p h. two_digits_text a.s.now a.at a.a k.0 k.1 k.2 c.if-a-eq48.false a.b k.3 b.0 b.1 (omega (arith, c.byte_at.ensures)) p.start p.end (h.0, omega (arith, h.1, k.1), h.2))
