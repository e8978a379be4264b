use mathlib.Core.Path.{◌≡◌}
use Prim.Native.Nat.{◌+◌, ◌^◌, ◌<◌}
use lib.ListN.{length}
use lib.Seq.{sets}
use Rattle.octets.specs.Numerals.{decimal}
use Rattle.octets.proofs.digits.DigitLaws.{places}
use Rattle.octets.proofs.digits.TensLaws.{Tens}
use Rattle.octets.proofs.decimal.store_decimal.Given as goal

-- the powers of ten that are to come are as many as the digits that are left
abbrev pub invariant-loop-p : goal.invariant-loop-p
invariant-loop-p l = record {
  tens : Tens l.p-iterator.iter.rest.now;
  stores : sets l.out l.o (places (length l.p-iterator.iter.rest.now) l.rest) ≡ sets l.initial.out l.at (decimal l.n);
  ends : l.o + length l.p-iterator.iter.rest.now ≡ l.at + length (decimal l.n);
  small : l.rest < 10 ^ length l.p-iterator.iter.rest.now;
  kept : length l.out ≡ length l.initial.out;
}
