-- The frames of an accepted call: how long they are, and what each of its puts leaves.
-- Assumes nothing.
use Prim.Native.Nat.{ℕ, ◌≤◌}
use mathlib.Core.Path.{◌≡◌, refl, sym, ap, subst}
use mathlib.Core.Bool.{true}
use mathlib.Core.Logic.{inl, inr}
use mathlib.Core.List.{List, [], ◌∷◌, append-nil}
use native.Mathlib.Omega.{arith}
use lib.ListN.{length}
use Rattle.octets.specs.Put.{Wrote, Put}
use Rattle.octets.proofs.writing.PutLaws.{put_wrote}
use Rattle.desk.specs.declared.call.Call.{Call}
use Rattle.desk.specs.declared.record.Desk.{Desk}
use Rattle.desk.specs.declared.lists.Pick.{Pick}
use Rattle.desk.specs.Watch.{is_id, pick_ids}
use Rattle.desk.specs.Record.{watched}
use Rattle.desk.specs.Command.{Command, downlimit_key, start_key, stop_key, uplimit_key, no_tag, command_frame, frames_of, longest_frames}
use Rattle.desk.specs.Refusal.{id_fits}
use Rattle.desk.specs.Plan.{commands_of}
use Rattle.desk.proofs.writing.FrameLengths.{limit_room, one_room}
use Rattle.desk.proofs.writing.FrameParts.{raise_length, clear_length}
use Rattle.desk.proofs.acting.RefusalLaws.{Accepted}
use Rattle.desk.proofs.records.SoundLaws.{sound_parts}
use Rattle.desk.proofs.watching.WatchLists.{has_id_lem}
use Rattle.desk.proofs.watching.FilteredIds.{alone}

-- one frame
pub one_frame : (c : Command) → frames_of (c ∷ []) ≡ command_frame no_tag c
unfolding frames_of
one_frame c = append-nil (command_frame no_tag c)

one_length : (c : Command) → length (command_frame no_tag c) ≤ longest_frames → length (frames_of (c ∷ [])) ≤ longest_frames
one_length c h = subst (λ (l : List ℕ). length l ≤ longest_frames) (sym (one_frame c)) h

-- an ID that is watched is a torrent ID
pub watched_id : (c : Call) (d : Desk) (x : ℕ) → Accepted c d → id_fits (Call.Start x) d ≡ id_fits c d → is_id x ≡ true
watched_id c d x ok e = has_id_lem x (watched d) (sound_parts d ok.is_sound).ids (rw e ok.id)

-- it is the only one that is picked as such
pub watched_alone : (c : Call) (d : Desk) (x : ℕ) → Accepted c d → id_fits (Call.Start x) d ≡ id_fits c d → pick_ids (Pick.Only x) (watched d) ≡ x ∷ []
watched_alone c d x ok e = alone x (watched d) (sound_parts d ok.is_sound).ids (rw e ok.id)

-- the frames of an accepted call are no longer than the longest
pub commands_length : (c : Call) (d : Desk) → Accepted c d → length (frames_of (commands_of c d)) ≤ longest_frames
unfolding commands_of command_frame
commands_length (Call.Down n) d ok = one_length (Command.set_down n) (limit_room no_tag (omega arith) downlimit_key n (inl refl) ok.limit)
commands_length (Call.Up n) d ok = one_length (Command.set_up n) (limit_room no_tag (omega arith) uplimit_key n (inr refl) ok.limit)
commands_length (Call.Start x) d ok = one_length (Command.start (x ∷ [])) (one_room no_tag (omega arith) start_key x (inl refl) (watched_id (Call.Start x) d x ok refl))
commands_length (Call.Stop x) d ok = one_length (Command.stop (x ∷ [])) (one_room no_tag (omega arith) stop_key x (inr refl) (watched_id (Call.Stop x) d x ok refl))
commands_length (Call.Raise x) d ok = raise_length d x ok.is_sound ok.id
commands_length Call.Clear d ok = clear_length d ok.is_sound

-- a request's one frame, put where there is room
pub put_one_frame : (c : Command) {before after : List ℕ} {n : ℕ} → longest_frames ≤ length before → length (frames_of (c ∷ [])) ≤ longest_frames → Put before 0 (command_frame no_tag c) after n
    → Wrote before 0 (frames_of (c ∷ [])) after n
put_one_frame c {before} {after} {n} room short p =
    subst (λ (l : List ℕ). Wrote before 0 l after n) (sym (one_frame c)) (put_wrote (omega (arith, room, short, ap length (one_frame c))) p)
