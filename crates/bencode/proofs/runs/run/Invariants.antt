use Prim.Native.Nat.{◌-◌, ◌^◌}
use Rattle.std.specs.Prelude.{Some}
use Rattle.bencode.specs.Runs.{Run}
use Rattle.bencode.proofs.runs.run.Given as goal

abbrev pub invariant-loop-end : goal.invariant-loop-end
invariant-loop-end g l = goal.F-IsAlwaysCallable g l.after × Run (λ at end. goal.F-post g l.after at (Some end)) l.from l.at

abbrev pub decreases-loop-end : goal.decreases-loop-end
decreases-loop-end g l = 2 ^ 64 - l.at
