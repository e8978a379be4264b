use Prim.Native.Nat.{◌<◌, ◌^◌, ◌-◌}
use mathlib.Core.Path.{◌≡◌}
use lib.ListN.{length, drop}
use Rattle.octets.specs.Numerals.{digits, capped}
use Rattle.octets.proofs.numerals.long_digits.Given as goal

abbrev pub invariant-loop-at : goal.invariant-loop-at
invariant-loop-at l = (l.n < 2 ^ 64) × (capped (digits l.n l.i (drop l.i l.s)) ≡ capped (digits l.number l.at (drop l.at l.s)))

abbrev pub decreases-loop-at : goal.decreases-loop-at
decreases-loop-at l = length l.s - l.i
