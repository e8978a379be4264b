use Rattle.std.proofs.Common.{◌≡◌, ℕ, ◌<◌, ◌-◌, ◌/◌, ◌%◌, ◌^◌, length, get_or}
use Rattle.ipc.specs.Hex.{hex_digit}
use Rattle.ipc.proofs.hex.hex_header.Given as goal

abbrev pub invariant-loop-k : goal.invariant-loop-k
invariant-loop-k l = (length l.digits ≡ 8) × ((j : ℕ) → j < l.k → get_or l.digits j 0 ≡ hex_digit (l.n / 16 ^ (7 - j) % 16))
