-- A loop is one step, and then the loop from where it ended.
-- Assumes nothing.
use Rattle.bencode.specs.Loop.{Unrolls}
use Rattle.bencode.proofs.loops.LoopLaws.{repeat_step}

pub unrolls : Unrolls
unrolls X A s step h d at x = repeat_step s step h d at x
