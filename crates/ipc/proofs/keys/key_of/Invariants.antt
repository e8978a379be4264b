use Rattle.ipc.specs.Keys.{listed, number_from, key_number}
use Prim.Native.Nat.{suc, ◌≤◌}
use mathlib.Core.Path.{◌≡◌}
use lib.ListN.{drop}
use Rattle.ipc.proofs.keys.key_of.Given as goal

abbrev pub invariant-loop-k : goal.invariant-loop-k
invariant-loop-k l = (l.k ≤ 20) × (number_from (suc l.k) (drop l.k listed) l.text ≡ key_number l.text)
