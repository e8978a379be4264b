-- To be believed. The numbers of a strip (document 01, 'The strip and its program': little-endian, limits in two's complement).
-- Assumes nothing.
use Rattle.std.specs.Prelude.{ℕ, ◌+◌, ◌-◌, ◌*◌, cond, List, ltb, ℤ, pos, negsuc}
use Rattle.octets.specs.Bytes.{byte_at}

-- four bytes, the lowest first
unfoldable pub number_at : List ℕ → ℕ → ℕ
number_at s at = byte_at s at + byte_at s (at + 1) * 256 + byte_at s (at + 2) * 65536 + byte_at s (at + 3) * 16777216

-- the integer of 32 bits
unfoldable pub twos_complement : ℕ → ℤ
twos_complement n = cond (ltb n 2147483648) (pos n) (negsuc (4294967295 - n))

abbrev pub limit_at : List ℕ → ℕ → ℤ
limit_at s at = twos_complement (number_at s at)
