-- Pinned by `SkipsValue`, `SkipsItems` and `SkipsEntries`. Where a value, or the rest of a list or dictionary, ends that has
-- been walked before: keys and depth are not checked again, nesting is only counted.
-- Assumes nothing.
use Rattle.std.specs.Prelude.{ℕ, zero, suc, ◌+◌, ◌-◌, Bool, cond, ◌||◌, List, eqb, Ok, Err}
use Rattle.octets.specs.Bytes.{byte_at}
use Rattle.bencode.specs.Letters.{letter_d, letter_e, letter_l}
use Rattle.bencode.specs.Loop.{LoopStep, next, done, repeat_from}
use Rattle.bencode.specs.Scalar.{scalar_at}
use Rattle.bencode.specs.Fault.{Walk}

-- goes on at an offset and a depth, or ends there where nothing is open
abbrev pub landed : ℕ → ℕ → LoopStep ℕ ℕ
landed at zero = done at
landed at (suc depth) = next at (suc depth)

-- after a string or an integer at an offset; where there is none, skipping ends at that offset
abbrev pub past_scalar : ℕ → ℕ → Walk → LoopStep ℕ ℕ
past_scalar at depth (Ok end) = landed end depth
past_scalar at depth (Err f) = done at

-- does a byte open a list or a dictionary
abbrev pub opens : ℕ → Bool
opens b = eqb b letter_l || eqb b letter_d

-- a step of skipping: one opening byte, one `e`, one string or one integer
abbrev pub skip_step : List ℕ → ℕ → ℕ → LoopStep ℕ ℕ
skip_step s at depth =
    cond (opens (byte_at s at)) (next (at + 1) (depth + 1))
    (cond (eqb (byte_at s at) letter_e) (landed (at + 1) (depth - 1))
    (past_scalar at depth (scalar_at s at)))

-- skipping on from an offset with so many lists and dictionaries open
unfoldable pub skip_from : List ℕ → ℕ → ℕ → ℕ
skip_from s at depth = repeat_from s (skip_step s) at at depth

-- the offset after the value at an offset
abbrev pub skip_value : List ℕ → ℕ → ℕ
skip_value s at = skip_from s at 0

-- the offset after the list or dictionary that an offset stands in, between two of its values
abbrev pub skip_rest : List ℕ → ℕ → ℕ
skip_rest s at = skip_from s at 1
