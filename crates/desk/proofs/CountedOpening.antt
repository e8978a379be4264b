-- An opening by an array and a count is the opening by the list of its first records.
-- Assumes nothing.
use mathlib.Core.Path.{sym, ap}
use Prim.Native.Nat.{ℕ}
use lib.ListN.{take}
use lib.Seq.{length-take-le}
use Rattle.desk.specs.Opening.{opening}
use Rattle.desk.specs.Demands.{CountedOpening}

pub counted_opening : CountedOpening
counted_opening places count d u h = ap (λ (n : ℕ). opening n (take count places) d u) (sym (length-take-le count places h))
