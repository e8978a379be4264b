use Prim.Native.Nat.{◌<◌, ◌^◌, ◌-◌}
use mathlib.Core.Path.{◌≡◌}
use lib.ListN.{length, drop}
use Rattle.octets.specs.Numerals.{digits, digits_at}
use Rattle.octets.proofs.numerals.digits.Given as goal

abbrev pub invariant-loop-at : goal.invariant-loop-at
invariant-loop-at l = (l.n < 2 ^ 64) × (digits l.n l.i (drop l.i l.s) ≡ digits_at l.s l.at)

abbrev pub decreases-loop-at : goal.decreases-loop-at
decreases-loop-at l = length l.s - l.i
