-- Pinned by `FindsItem` and `EndsItems`. The items of a list that has been walked.
-- Assumes nothing.
use Rattle.std.specs.Prelude.{ℕ, cond, List, eqb, leb, Option, Some, None}
use Rattle.octets.specs.Bytes.{byte_at}
use Rattle.bencode.specs.Letters.{letter_e}
use Rattle.bencode.specs.Skip.{skip_value}

-- an item by the offset after it; one that does not end after it starts is none
abbrev pub item_to : ℕ → ℕ → Option ℕ
item_to at end = cond (leb end at) None (Some end)

-- the item at an offset of a list, between two of its items: the offset after it, or none at the list's end
unfoldable pub item_at : List ℕ → ℕ → Option ℕ
item_at s at = cond (eqb (byte_at s at) letter_e) None (item_to at (skip_value s at))
