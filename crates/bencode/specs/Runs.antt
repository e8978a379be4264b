-- `Run`, `TextAt` and `PositiveAt` are to be believed by callers of `texts` and `positives`; for frames they are pinned by ipc's
-- `text_list` and `id_list`. `ListOn` is pinned by the promise of `list`, and nothing public cites it.
-- Items of one kind that stand one after another in a list.
-- Assumes nothing.
use Rattle.std.specs.Prelude.{ℕ, ◌≤◌, ◌≡◌, List, length, Some, Ok}
use Rattle.bencode.specs.declared.profile.Profile.{Profile}
use Rattle.bencode.specs.Integers.{integer_at, after_positive}
use Rattle.bencode.specs.Strings.{string_at, text_end}
use Rattle.bencode.specs.Walk.{list_at}

-- from one offset to another there are items and nothing else, where `item` tells which stand at an offset and end at another:
-- none, or one more after a run
pub data Run (item : ℕ → ℕ → Type 0) (from : ℕ) : ℕ → Type 0 where
  none : Run item from from
  more : (at end : ℕ) → Run item from at → item at end → Run item from end

-- a string stands at an offset and ends at another
abbrev pub TextAt : List ℕ → ℕ → ℕ → Type 0
TextAt s at end = text_end (string_at s at) ≡ Ok end

-- an integer from 1 to `high` stands at an offset and ends at another
abbrev pub PositiveAt : ℕ → List ℕ → ℕ → ℕ → Type 0
PositiveAt high s at end = after_positive high (integer_at s at) ≡ Some end

-- an offset is within the bytes, and a list comes from there on to what it comes to from another on, in any profile and at any
-- depth
abbrev pub ListOn : List ℕ → ℕ → ℕ → Type 0
ListOn s at to = (to ≤ length s) × ((p : Profile) (levels : ℕ) → list_at p levels s to ≡ list_at p levels s at)
