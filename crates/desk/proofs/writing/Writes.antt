-- The frame writer writes the desk's frames into the most bytes that a call writes.
-- Assumes nothing.
use Prim.Native.Nat.{ℕ, ◌≤◌, ◌<◌}
use mathlib.Core.Path.{◌≡◌, refl, sym, ap, subst, ◌∙◌}
use mathlib.Core.Logic.{⊎_elim, inl, inr}
use mathlib.Core.Bool.{true}
use mathlib.Core.List.{List, [], ◌∷◌}
use native.Mathlib.Omega.{arith}
use borrow.Author.Tests.{le-leb, lt-leb}
use lib.IntN.{ℤ}
use lib.ListN.{length}
use Rattle.bencode.specs.Value.{list, encode}
use Rattle.ipc.specs.declared.writer.Given.{Given}
use Rattle.ipc.specs.Ids.{largest_tag}
use Rattle.ipc.specs.Keys.{class_of, is_written, listed}
use Rattle.ipc.specs.Meaning.{is_id_value, every}
use Rattle.ipc.specs.Header.{largest_payload}
use Rattle.ipc.specs.Writer.{is_id_list, value_fits, payload_of, message_fault, write_answer, frame_of, fitted}
use Rattle.ipc.proofs.IdLists.{id_list_exactly}
use Rattle.ipc.proofs.meaning.Inverts.{and_left, and_right}
use Rattle.ipc.proofs.writing.WriterLaws.{frame_length, fitted_count}
use Rattle.desk.specs.Limit.{is_limit}
use Rattle.desk.specs.Watch.{is_id, all_ids}
use Rattle.desk.specs.Command.{downlimit_key, start_key, stop_key, uplimit_key, values, id_list, message_frame, longest_frames, Writable, LimitKey, ListKey}
use Rattle.desk.proofs.writing.FrameLengths.{limit_room, ids_room}
use Rattle.ipc.specs.declared.writer.WriteRefusal.{WriteRefusal}
use Rattle.std.specs.Prelude.{Result, Ok, Err}

-- a message that is in order and no longer than the longest call
writable : (tag key : ℕ) (given : Given) (s : List ℕ) → message_fault key given s tag ≡ Ok tt → length (message_frame tag key given s) ≤ longest_frames → Writable tag key given s
unfolding message_frame
writable tag key given s e h = (e, omega (arith, frame_length (payload_of key given s tag)))

abbrev counted : ℕ → Result ℕ WriteRefusal
counted n = Ok n

-- it is written into any room that its frame has
pub writable_answer : (tag key : ℕ) (given : Given) (s : List ℕ) (room : ℕ) → Writable tag key given s → length (message_frame tag key given s) ≤ room
    → write_answer key given s tag room ≡ Ok (length (message_frame tag key given s))
unfolding write_answer message_frame
writable_answer tag key given s room w h =
    let size = frame_length (payload_of key given s tag) in
    rw w.0 (fitted_count (payload_of key given s tag) room w.1 (omega (arith, size)) ∙ ap counted (sym size))

-- and refused with 44 in any other
pub writable_short : (tag key : ℕ) (given : Given) (s : List ℕ) (room : ℕ) → Writable tag key given s → room < length (message_frame tag key given s)
    → write_answer key given s tag room ≡ Err WriteRefusal.Room
unfolding write_answer message_frame fitted
writable_short tag key given s room w h = rw (w.0, le-leb (length (payload_of key given s tag)) largest_payload w.1, lt-leb (length (frame_of (payload_of key given s tag))) room h) refl

-- ---- lists of torrent IDs
each_id : (ids : List ℕ) → all_ids ids ≡ true → every is_id_value (values ids) ≡ true
unfolding all_ids values is_id
each_id [] h = refl
each_id (x ∷ xs) h = rw (and_left (is_id x) (all_ids xs) h) (each_id xs (and_right (is_id x) (all_ids xs) h))

list_fits : (ids : List ℕ) → all_ids ids ≡ true → is_id_list (id_list ids) ≡ true
unfolding id_list
list_fits ids h = (id_list_exactly (encode (list (values ids)))).1 (record { ids = values ids; each = each_id ids h; is = refl })

module _ (tag : ℕ) (small : tag ≤ largest_tag) where
  pub limit_writable : (key : ℕ) (n : ℤ) → LimitKey key → is_limit n ≡ true → Writable tag key (Given.Integer n) []
  unfolding message_fault is_written class_of listed value_fits
  limit_writable key n k h =
      ⊎_elim
      (λ (q : key ≡ downlimit_key). subst (λ (i : ℕ). Writable tag i (Given.Integer n) []) (sym q) down)
      (λ (q : key ≡ uplimit_key). subst (λ (i : ℕ). Writable tag i (Given.Integer n) []) (sym q) up)
      k
    where
      down : Writable tag downlimit_key (Given.Integer n) []
      down = writable tag downlimit_key (Given.Integer n) [] (rw (le-leb tag largest_tag small) refl) (limit_room tag small downlimit_key n (inl refl) h)

      up : Writable tag uplimit_key (Given.Integer n) []
      up = writable tag uplimit_key (Given.Integer n) [] (rw (le-leb tag largest_tag small) refl) (limit_room tag small uplimit_key n (inr refl) h)

  pub ids_writable : (key : ℕ) (ids : List ℕ) → ListKey key → all_ids ids ≡ true → length ids ≤ 32 → Writable tag key Given.Bytes (id_list ids)
  unfolding message_fault is_written class_of listed value_fits
  ids_writable key ids k h few =
      ⊎_elim
      (λ (q : key ≡ start_key). subst (λ (i : ℕ). Writable tag i Given.Bytes (id_list ids)) (sym q) starts)
      (λ (q : key ≡ stop_key). subst (λ (i : ℕ). Writable tag i Given.Bytes (id_list ids)) (sym q) stops)
      k
    where
      starts : Writable tag start_key Given.Bytes (id_list ids)
      starts = writable tag start_key Given.Bytes (id_list ids) (rw (list_fits ids h, le-leb tag largest_tag small) refl) (ids_room tag small start_key ids (inl refl) h few)

      stops : Writable tag stop_key Given.Bytes (id_list ids)
      stops = writable tag stop_key Given.Bytes (id_list ids) (rw (list_fits ids h, le-leb tag largest_tag small) refl) (ids_room tag small stop_key ids (inr refl) h few)
