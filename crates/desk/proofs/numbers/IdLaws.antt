-- Torrent IDs: what the frame reader's ID of a number tells of the number.
-- Assumes nothing.
use mathlib.Core.Path.{◌≡◌, refl, ap, ◌∙◌}
use mathlib.Core.Bool.{Bool, true, false, cond}
use Prim.Native.Nat.{ℕ}
use lib.IntN.{ℤ, pos}
use Rattle.std.specs.Prelude.{Option, Some, None, is_some}
use Rattle.ipc.specs.declared.ids.TorrentId.{TorrentId}
use Rattle.ipc.specs.Ids.{torrent_id_of}
use Rattle.desk.specs.Watch.{is_id}

some_when : (b : Bool) (x : TorrentId) → is_some (cond b (Some x) None) ≡ b
some_when true x = refl
some_when false x = refl

-- a number is an ID exactly where one is made of it
pub id_tested : (n : ℕ) (z : ℤ) → z ≡ pos n → (r : Option TorrentId) → r ≡ torrent_id_of z → is_some r ≡ is_id n
unfolding torrent_id_of is_id
id_tested n z same r e = ap (λ (o : Option TorrentId). is_some o) e ∙ ap (λ (y : ℤ). is_some (torrent_id_of y)) same ∙ some_when (is_id n) (record { 0 = n })
