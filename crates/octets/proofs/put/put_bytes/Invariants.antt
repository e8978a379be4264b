use mathlib.Core.Path.{◌≡◌}
use Prim.Native.Nat.{◌+◌}
use lib.ListN.{length, drop}
use lib.Seq.{sets}
use Rattle.octets.proofs.put.put_bytes.Given as goal

-- the bytes that are to come are stored after those that are
abbrev pub invariant-loop-b : goal.invariant-loop-b
invariant-loop-b l = record {
  stores : sets l.out l.o (drop l.b-index l.src) ≡ sets l.initial.out l.at l.src;
  ends : l.o ≡ l.at + l.b-index;
  kept : length l.out ≡ length l.initial.out;
}
