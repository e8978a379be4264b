-- `bencode::plain_text::is_plain` meets its contract: from the start up to where the loop is, the bytes are 1 to 7F.
-- Assumes nothing.
use Prim.Native.Nat.{◌+◌, ◌-◌}
use native.Mathlib.Omega.{arith}
use Rattle.bencode.proofs.utf8.PlainLaws.{plain_fewer, plain_more, plain_text_lem}
use Rattle.bencode.proofs.plain_text.is_plain.Goals as goal

pub returns-then-end-i : goal.returns-then-end-i
returns-then-end-i c h =
    let a = c.args in
    let l = c.loop-i in
    let here = c.plain_at.ensures c.loop-i-test.true in
    let more = plain_more a.s.now a.start l.i l.invariant.0 l.invariant.2 here.1 in
    plain_text_lem a.s.now a.start a.end c.requires.0 c.requires.1 (plain_fewer a.s.now a.start (l.i + 8 - a.start) (a.end - a.start) (omega (arith, c.if-end-i.true)) more)
