-- Pinned by the promise of `message`; nothing public cites it. What the functions of lists.rt promise, as equations of bencode's
-- `Walk` and of `Format`.
-- Assumes nothing.
use Rattle.std.specs.Prelude.{ℕ, ◌+◌, ◌≡◌, Bool, true, false, cond, List, eqb, Option, Some, None, Result, Ok, Err}
use Rattle.octets.specs.Bytes.{byte_at}
use Rattle.bencode.specs.declared.fault.Fault.{Fault}
use Rattle.bencode.specs.declared.integers.Number.{Number}
use Rattle.bencode.specs.declared.profile.Profile.{Profile}
use Rattle.bencode.specs.Depth.{sublist_levels}
use Rattle.bencode.specs.Letters.{letter_e}
use Rattle.bencode.specs.Walk.{list_at}
use Rattle.ipc.specs.declared.format.Items.{Items}
use Rattle.ipc.specs.declared.lists.ListCheck.{ListCheck}
use Rattle.ipc.specs.Format.{items_end}
use Rattle.ipc.specs.Ids.{torrent_id_of}
use Rattle.ipc.specs.declared.ids.TorrentId.{TorrentId}

-- is there a torrent ID
abbrev pub has_id : Option TorrentId → Bool
has_id (Some id) = true
has_id None = false

-- is an integer a torrent ID
abbrev pub is_id : Result Number Fault → Bool
is_id (Ok n) = has_id (torrent_id_of n.value)
is_id (Err f) = false

-- the list whose items before an offset are in their format: it ends there, or is given up there
abbrev pub closed_at : List ℕ → ℕ → ListCheck
closed_at p at = cond (eqb (byte_at p at) letter_e) (ListCheck.Fits (at + 1)) (ListCheck.Off at)

-- the list whose items start at an offset, in a profile: it ends and every item is in its format; or it is the list that goes on at
-- another offset
abbrev pub Listing : Profile → Items → List ℕ → ℕ → ListCheck → Type 0
Listing profile items p from (ListCheck.Fits end) = (list_at profile sublist_levels p from ≡ Ok end) × (items_end items p from ≡ Some end)
Listing profile items p from (ListCheck.Off at) = list_at profile sublist_levels p at ≡ list_at profile sublist_levels p from

-- or it has a fault
abbrev pub ListingOrFault : Profile → Items → List ℕ → ℕ → Result ListCheck Fault → Type 0
ListingOrFault profile items p from (Ok l) = Listing profile items p from l
ListingOrFault profile items p from (Err f) = list_at profile sublist_levels p from ≡ Err f
