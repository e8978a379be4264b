-- Pinned by `ReadsBack` and `WritesBack`; upper case is to be believed. Hex digits as the writer writes them.
-- Assumes nothing.
use Rattle.std.specs.Prelude.{ℕ, zero, suc, ◌+◌, ◌-◌, ◌/◌, ◌%◌, ◌^◌, cond, List, [], ◌∷◌, ◌++◌, map, ltb, take, drop}
use Rattle.ipc.specs.Header.{header_length}

-- the upper case hex digit of a number below 16
unfoldable pub hex_digit : ℕ → ℕ
hex_digit d = cond (ltb d 10) (48 + d) (55 + d)

-- the k lowest hex digits of a number, the highest first
unfoldable pub hex_in : ℕ → ℕ → List ℕ
hex_in zero n = []
hex_in (suc k) n = hex_digit (n / 16 ^ k % 16) ∷ hex_in k n

-- a number as the digits of a header
unfoldable pub hex_header : ℕ → List ℕ
hex_header n = hex_in header_length n

-- a letter in upper case
unfoldable pub upper : ℕ → ℕ
upper c = cond (ltb c 97) c (cond (ltb c 123) (c - 32) c)

-- a frame with the letters of its header in upper case
abbrev pub upper_header : List ℕ → List ℕ
upper_header f = map upper (take header_length f) ++ drop header_length f
