-- The frames of a raise or a clear: their parts, and how long they are.
-- Assumes nothing.
use Prim.Native.Nat.{ℕ, suc, ◌+◌, ◌*◌, ◌≤◌, ◌<◌}
use mathlib.Core.Path.{◌≡◌, refl, sym, ap, ap₂, ◌∙◌}
use mathlib.Core.Bool.{true, cond, not, ◌||◌, false≢true}
use mathlib.Core.List.{List, [], ◌∷◌, ◌++◌, flatten, append-nil, append_assoc}
use native.Mathlib.Omega.{arith}
use lib.Dec.{eqb}
use lib.IntN.{ℤ}
use lib.ListN.{length, length-append}
use Rattle.octets.specs.Numerals.{decimal, decimal_before}
use Rattle.bencode.specs.Value.{integer, encode}
use Rattle.desk.specs.declared.record.Desk.{Desk}
use Rattle.desk.specs.declared.lists.Pick.{Pick}
use Rattle.desk.specs.declared.watch.Watch.{Watch}
use Rattle.desk.specs.Limit.{unlimited}
use Rattle.desk.specs.Watch.{has, picked, filtered, pick_ids, all_ids}
use Rattle.desk.specs.Record.{watched, sound}
use Rattle.desk.specs.Command.{Command, no_tag, downlimit_key, start_key, stop_key, uplimit_key, values, id_list, limit_frame, ids_frame, command_frame, frames_of, listing, four_commands, listed_frame, longest_frames}
use Rattle.desk.specs.Plan.{raise_commands, clear_commands}
use Rattle.desk.proofs.general.Cases.{by_cases}
use Rattle.desk.proofs.machines.CommandLaws.{FewIds, one_id}
use Rattle.desk.proofs.writing.FrameLengths.{no_tag_lem, limit_small, list_length, items_small, items_some, down_length, up_length, start_length, stop_length}
use Rattle.desk.proofs.records.SoundLaws.{sound_parts, watched_length, pick_ids_lem, pick_length, pick_both}
use Rattle.desk.proofs.watching.WatchLists.{has_id_lem}

-- ---- the parts
frames_append : (xs ys : List Command) → frames_of (xs ++ ys) ≡ frames_of xs ++ frames_of ys
unfolding frames_of
frames_append [] ys = refl
frames_append (c ∷ xs) ys = ap (λ (l : List ℕ). command_frame no_tag c ++ l) (frames_append xs ys) ∙ sym (append_assoc (command_frame no_tag c) (frames_of xs) (frames_of ys))

stops_frame : (ids : List ℕ) → frames_of (listing Command.stop ids) ≡ listed_frame no_tag stop_key ids
unfolding frames_of listing listed_frame command_frame
stops_frame [] = refl
stops_frame (x ∷ xs) = append-nil (ids_frame no_tag stop_key (x ∷ xs))

starts_frame : (ids : List ℕ) → frames_of (listing Command.start ids) ≡ listed_frame no_tag start_key ids
unfolding frames_of listing listed_frame command_frame
starts_frame [] = refl
starts_frame (x ∷ xs) = append-nil (ids_frame no_tag start_key (x ∷ xs))

abbrev pub four_parts : ℤ → ℤ → List ℕ → List ℕ → List (List ℕ)
four_parts down up stops starts = limit_frame no_tag downlimit_key down ∷ limit_frame no_tag uplimit_key up ∷ listed_frame no_tag stop_key stops ∷ listed_frame no_tag start_key starts ∷ []

pub four_parts_lem : (down up : ℤ) (stops starts : List ℕ) → flatten (four_parts down up stops starts) ≡ frames_of (four_commands down up stops starts)
unfolding flatten frames_of command_frame
four_parts_lem down up stops starts =
    let lists : listed_frame no_tag stop_key stops ++ (listed_frame no_tag start_key starts ++ []) ≡ frames_of (listing Command.stop stops ++ listing Command.start starts) =
    ap₂ ◌++◌ (sym (stops_frame stops)) (append-nil (listed_frame no_tag start_key starts) ∙ sym (starts_frame starts)) ∙ sym (frames_append (listing Command.stop stops) (listing Command.start starts)) in
    ap (λ (l : List ℕ). limit_frame no_tag downlimit_key down ++ (limit_frame no_tag uplimit_key up ++ l)) lists

-- ---- their lengths
stops_length : (ids : List ℕ) → all_ids ids ≡ true → length (listed_frame no_tag stop_key ids) ≤ 18 + 12 * length ids
unfolding listed_frame
stops_length [] h = omega arith
stops_length (x ∷ xs) h = omega (arith, stop_length no_tag (x ∷ xs), list_length (x ∷ xs), items_small (x ∷ xs) h, no_tag_lem)

starts_length : (ids : List ℕ) → all_ids ids ≡ true → length (listed_frame no_tag start_key ids) ≤ 19 + 12 * length ids
unfolding listed_frame
starts_length [] h = omega arith
starts_length (x ∷ xs) h = omega (arith, start_length no_tag (x ∷ xs), list_length (x ∷ xs), items_small (x ∷ xs) h, no_tag_lem)

four_length : (down up : ℤ) (stops starts : List ℕ) → all_ids stops ≡ true → all_ids starts ≡ true
    → length (frames_of (four_commands down up stops starts)) ≤ 77 + length (encode (integer down)) + length (encode (integer up)) + 12 * (length stops + length starts)
unfolding flatten
four_length down up stops starts p q =
    omega (
      arith,
      ap length (four_parts_lem down up stops starts),
      length-append (limit_frame no_tag downlimit_key down) (limit_frame no_tag uplimit_key up ++ (listed_frame no_tag stop_key stops ++ (listed_frame no_tag start_key starts ++ []))),
      length-append (limit_frame no_tag uplimit_key up) (listed_frame no_tag stop_key stops ++ (listed_frame no_tag start_key starts ++ [])),
      length-append (listed_frame no_tag stop_key stops) (listed_frame no_tag start_key starts ++ []),
      length-append (listed_frame no_tag start_key starts) [],
      down_length no_tag down,
      up_length no_tag up,
      no_tag_lem,
      stops_length stops p,
      starts_length starts q,
    )

-- all watched IDs but one are fewer than all
others_fewer : (x : ℕ) (ws : List Watch) → has x ws ≡ true → length (pick_ids (Pick.But x) ws) < length ws
unfolding has filtered
others_fewer x [] h = absurd (false≢true h)
others_fewer x (w ∷ ws) h =
    let rest = pick_ids (Pick.But x) ws in
    by_cases (λ b. (b || has x ws) ≡ true → length (cond (not b) (w.id ∷ rest) rest) < suc (length ws)) (eqb w.id x)
    (λ _ _. omega (arith, pick_length (picked (Pick.But x)) ws))
    (λ _ g. omega (arith, others_fewer x ws g))
    h

unlimited_length : length (encode (integer unlimited)) ≡ 4
unfolding encode decimal decimal_before
unlimited_length = refl

pub raise_length : (d : Desk) (x : ℕ) → sound d ≡ true → has x (watched d) ≡ true → length (frames_of (raise_commands x d)) ≤ longest_frames
unfolding raise_commands
raise_length d x h k =
    let parts = sound_parts d h in
    omega (
      arith,
      four_length unlimited unlimited (pick_ids (Pick.But x) (watched d)) (x ∷ []) (pick_ids_lem (picked (Pick.But x)) (watched d) parts.ids) (one_id x (has_id_lem x (watched d) parts.ids k)).0,
      unlimited_length,
      others_fewer x (watched d) k,
      watched_length d h,
    )

pub clear_length : (d : Desk) → sound d ≡ true → length (frames_of (clear_commands d)) ≤ longest_frames
unfolding clear_commands
clear_length d h =
    let parts = sound_parts d h in
    omega (
      arith,
      four_length d.down d.up (pick_ids Pick.Stopped (watched d)) (pick_ids Pick.Running (watched d)) (pick_ids_lem (picked Pick.Stopped) (watched d) parts.ids) (pick_ids_lem (picked Pick.Running) (watched d) parts.ids),
      limit_small d.down parts.down,
      limit_small d.up parts.up,
      pick_both (picked Pick.Running) (watched d),
      watched_length d h,
    )

-- ---- the list of the IDs that are picked
module _ (d : Desk) (h : sound d ≡ true) (pick : Pick) where
  pub picked_few : FewIds (pick_ids pick (watched d))
  picked_few = (pick_ids_lem (picked pick) (watched d) (sound_parts d h).ids, omega (arith, pick_length (picked pick) (watched d), watched_length d h))

  pub picked_room : length (id_list (pick_ids pick (watched d))) ≤ longest_frames
  picked_room = omega (arith, list_length (pick_ids pick (watched d)), items_small (pick_ids pick (watched d)) picked_few.0, picked_few.1)

-- it holds nothing exactly where it is two bytes long
pub listed_none : (tag key : ℕ) (ids : List ℕ) → length (id_list ids) ≡ 2 → listed_frame tag key ids ≡ []
unfolding listed_frame
listed_none tag key [] h = refl
listed_none tag key (x ∷ xs) h = let z : ⊥ = omega (arith, list_length (x ∷ xs), items_some x xs, h) in absurd z

pub listed_some : (tag key : ℕ) (ids : List ℕ) → (length (id_list ids) ≡ 2 → ⊥) → listed_frame tag key ids ≡ ids_frame tag key ids
unfolding listed_frame id_list values encode
listed_some tag key [] h = absurd (h refl)
listed_some tag key (x ∷ xs) h = refl
