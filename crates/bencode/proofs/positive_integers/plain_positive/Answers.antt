-- `bencode::positive_integers::plain_positive` meets its contract: one law has what it finds.
-- Assumes nothing.
use native.Mathlib.Omega.{arith}
use Rattle.bencode.proofs.scalars.TenLaws.{ten_positive}
use Rattle.bencode.proofs.positive_integers.plain_positive.Goals as goal

pub returns : goal.returns
returns c =
    let a = c.args in
    let d = c.ten_digits-d in
    let e = c.if-s-end-ne101.false in
    ten_positive a.s.now a.at a.high d.result.end d.result.above
    (d.ensures.2 e) e (omega (arith, c.byte_at.ensures)) c.if-s-from-eq48.false c.if-end-from.false d.ensures.0 c.if-high-d.false
