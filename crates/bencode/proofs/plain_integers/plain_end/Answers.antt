-- `bencode::plain_integers::plain_end` meets its contract: one law has what it finds.
-- Assumes nothing.
use Prim.Native.Nat.{◌+◌}
use native.Mathlib.Omega.{arith}
use Rattle.bencode.proofs.scalars.FewLaws.{few_ends, few_plain}
use Rattle.bencode.proofs.plain_integers.plain_end.Goals as goal

pub returns : goal.returns
returns c =
    let a = c.args in
    let d = c.digits_end-end in
    let short = c.is_short.ensures c.if-not-is_short.false in
    few_plain a.s.now a.at d.result (few_ends a.s.now (a.at + 1) d.result d.ensures short.1) (omega arith) (omega (arith, c.byte_at.ensures)) short.0 short.2
