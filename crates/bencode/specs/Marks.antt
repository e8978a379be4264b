-- Pinned by the promise of the walk's `dictionary`; nothing public cites it. Marks of a dictionary's keys, a bit of 64 for each.
-- Assumes nothing.
use Rattle.std.specs.Prelude.{ℕ, ◌+◌, ◌-◌, ◌*◌, ◌/◌, ◌%◌, ◌^◌, Bool, List, eqb, length}
use Rattle.std.specs.Int.Bits.{bit_or}
use Rattle.octets.specs.Bytes.{byte_at}

-- the place of a key's mark: equal keys have one place
unfoldable pub place_of : List ℕ → ℕ
place_of key = (length key % 64 * 7 + byte_at key 0 * 2 + byte_at key (length key - 1)) % 64

-- is the mark at a place there
unfoldable pub is_marked : ℕ → ℕ → Bool
is_marked marks place = eqb (marks / 2 ^ place % 2) 1

-- the marks with that at a place
unfoldable pub with_mark : ℕ → ℕ → ℕ
with_mark marks place = bit_or marks (2 ^ place)
