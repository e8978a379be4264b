-- After an accepted opening every record is sound, so that no call answers 38: each call keeps it sound.
-- Assumes nothing.
use Prim.Native.Nat.{ℕ, ◌<◌}
use native.Mathlib.Omega.{arith}
use mathlib.Core.Path.{◌≡◌, refl, sym, ap, ◌∙◌}
use mathlib.Core.Bool.{Bool, true, false, ◌||◌, or-true}
use mathlib.Core.List.{List, [], ◌∷◌}
use lib.Dec.{eqb}
use lib.IntN.{ℤ}
use lib.ListN.{length, take, set, length-take}
use lib.Seq.{take-set-lt, drop-set-lt}
use Rattle.desk.specs.declared.record.Desk.{Desk}
use Rattle.desk.specs.Limit.{is_limit}
use Rattle.desk.specs.Watch.{has, place, unused}
use Rattle.desk.specs.Record.{watched, sound, with_down, with_up, with_override, with_running}
use Rattle.desk.specs.Command.{Command}
use Rattle.desk.specs.declared.call.Call.{Call}
use Rattle.desk.specs.Plan.{Outcome, deferred, desk_after, plan}
use Rattle.desk.specs.Calls.{framed, outcome, returned}
use Rattle.desk.specs.Demands.{desk, Turn, World, after, turn, turns, after_opening, NeverBadRecord}
use Rattle.desk.proofs.general.Cases.{cond_cases}
use Rattle.desk.proofs.watching.WatchLists.{entry, has_set, place_below, ids_ok, ids_set}
use Rattle.desk.proofs.records.SoundLaws.{Sound, sound_parts, parts_sound}
use Rattle.desk.proofs.openings.AcceptedOpening.{opened_sound}
use Rattle.desk.proofs.acting.RefusalLaws.{Accepted}
use Rattle.desk.proofs.acting.CallLaws.{Comes, outcome_cases}

-- ---- the record with a change
running_sound : (d : Desk) (x : ℕ) (on : Bool) → Sound d → has x (watched d) ≡ true → Sound (with_running x on d)
unfolding with_running
running_sound d x on p k =
    let below : place x (watched d) < d.count = omega (arith, place_below x (watched d) k, length-take d.count d.watch) in
    let used : take d.count (set d.watch (place x (watched d)) (entry x on)) ≡ set (watched d) (place x (watched d)) (entry x on) =
    take-set-lt d.count d.watch (place x (watched d)) (entry x on) below in
    record {
      is_open = p.is_open;
      few = p.few;
      down = p.down;
      up = p.up;
      ids = ap ids_ok used ∙ ids_set x on (watched d) ∙ p.ids;
      zeros = ap unused (drop-set-lt d.count d.watch (place x (watched d)) (entry x on) below) ∙ p.zeros;
      override =
          ap (λ b. eqb d.override_id 0 || b) (ap (has d.override_id) used ∙ has_set x d.override_id on (watched d))
          ∙ p.override;
    }

override_sound : (d : Desk) (x : ℕ) → Sound d → (eqb x 0 || has x (watched d)) ≡ true → Sound (with_override x d)
unfolding with_override
override_sound d x p k = record { is_open = p.is_open; few = p.few; down = p.down; up = p.up; ids = p.ids; zeros = p.zeros; override = k }

down_sound : (d : Desk) (n : ℤ) → Sound d → is_limit n ≡ true → Sound (with_down n d)
unfolding with_down
down_sound d n p k = record { is_open = p.is_open; few = p.few; down = k; up = p.up; ids = p.ids; zeros = p.zeros; override = p.override }

up_sound : (d : Desk) (n : ℤ) → Sound d → is_limit n ≡ true → Sound (with_up n d)
unfolding with_up
up_sound d n p k = record { is_open = p.is_open; few = p.few; down = p.down; up = k; ids = p.ids; zeros = p.zeros; override = p.override }

-- ---- a call: the record after it is sound, and its code is not 38
record KeepsSound (o : Outcome (List Command)) : Type 0 where
  stays : sound o.desk ≡ true
  code : o.code ≡ 38 → ⊥

accepted_sound : (c : Call) (d : Desk) → Accepted c d → Sound (desk_after c d)
unfolding desk_after
accepted_sound (Call.Down n) d ok = down_sound d n (sound_parts d ok.is_sound) ok.limit
accepted_sound (Call.Up n) d ok = up_sound d n (sound_parts d ok.is_sound) ok.limit
accepted_sound (Call.Start x) d ok = running_sound d x true (sound_parts d ok.is_sound) ok.id
accepted_sound (Call.Stop x) d ok = running_sound d x false (sound_parts d ok.is_sound) ok.id
accepted_sound (Call.Raise x) d ok = override_sound d x (sound_parts d ok.is_sound) (ap (λ b. eqb x 0 || b) ok.id ∙ or-true (eqb x 0))
accepted_sound Call.Clear d ok = override_sound d 0 (sound_parts d ok.is_sound) refl

plan_keeps : (c : Call) (d : Desk) → Accepted c d → KeepsSound (plan c d)
unfolding plan
plan_keeps c d ok =
    let stays = parts_sound (desk_after c d) (accepted_sound c d ok) in
    cond_cases KeepsSound (deferred c d)
    (λ _. record { stays = stays; code = λ e. omega arith })
    (λ _. record { stays = stays; code = λ e. omega arith })

outcome_keeps : (c : Call) (room : ℕ) (d : Desk) → sound d ≡ true → Comes KeepsSound c room d
outcome_keeps c room d h = outcome_cases KeepsSound c room d (λ n k. record { stays = h; code = k.other h }) (plan_keeps c d)

pub outcome_sound : (c : Call) (room : ℕ) (d : Desk) → sound d ≡ true → sound (outcome c room d).desk ≡ true
unfolding framed
outcome_sound c room d h = let k = outcome_keeps c room d h in ap (λ (o : Outcome (List ℕ)). sound o.desk) k.is ∙ k.holds.stays

-- ---- a list of calls
turns_sound : (ts : List Turn) (w : World Desk) → sound w.record_now ≡ true → sound (turns desk ts w).record_now ≡ true
unfolding turns turn after returned
turns_sound [] w h = h
turns_sound (t ∷ ts) w h = turns_sound ts (turn desk t w) (outcome_sound t.call (length t.buffer) w.record_now h)

pub never_bad_record : NeverBadRecord
unfolding after_opening framed
never_bad_record watch down up others calls c room h bad =
    let w = after_opening desk watch down up others in
    let k = outcome_keeps c room (turns desk calls w).record_now (turns_sound calls w (opened_sound watch down up h)) in
    k.holds.code (sym (ap (λ (o : Outcome (List ℕ)). o.code) k.is) ∙ bad)
