use Prim.Native.Nat.{ℕ, ◌+◌, ◌<◌}
use mathlib.Core.Path.{◌≡◌}
use Rattle.octets.specs.Bytes.{byte_at}
use Rattle.bencode.specs.Classes.{class_of}
use Rattle.bencode.proofs.digits.digits_end.Given as goal

abbrev pub invariant-loop-k : goal.invariant-loop-k
invariant-loop-k g l = (j : ℕ) → j < l.k → class_of (byte_at l.s (l.from + j)) ≡ 48
