-- `bencode::marks::with_mark` meets its contract.
-- Assumes nothing.
use Prim.Native.Nat.{ℕ}
use mathlib.Core.Path.{ap}
use lib.Bits.{bit_or}
use Rattle.bencode.specs.Marks.{with_mark}
use Rattle.bencode.proofs.walking.MarkLaws.{one_shl}
use Rattle.bencode.proofs.marks.with_mark.Goals as goal

pub returns : goal.returns
unfolding with_mark
returns c = ap (λ (b : ℕ). bit_or c.args.marks b) (one_shl c.args.place c.requires)
