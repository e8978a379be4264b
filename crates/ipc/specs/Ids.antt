-- To be believed. Tags and torrent IDs (document 01, 'The message': 1 to 2,147,483,647, and never taken for each other).
-- Assumes nothing.
use Rattle.std.specs.Prelude.{ℕ, cond, ℤ, nat_abs, Option, Some, None}
use Rattle.bencode.specs.Integers.{within}
use Rattle.ipc.specs.declared.ids.Tag.{Tag}
use Rattle.ipc.specs.declared.ids.TorrentId.{TorrentId}

-- a number from 1 to another
unfoldable pub number_in : ℕ → ℤ → Option ℕ
number_in largest z = cond (within 1 largest z) (Some (nat_abs z)) None

abbrev pub largest_tag : ℕ
largest_tag = 2147483647

abbrev pub largest_id : ℕ
largest_id = 2147483647

-- the tag of a number: 1 to the largest
unfoldable pub tag_of : ℤ → Option Tag
tag_of z = cond (within 1 largest_tag z) (Some (record { 0 = nat_abs z })) None

-- the torrent ID of a number: 1 to the largest
unfoldable pub torrent_id_of : ℤ → Option TorrentId
torrent_id_of z = cond (within 1 largest_id z) (Some (record { 0 = nat_abs z })) None
