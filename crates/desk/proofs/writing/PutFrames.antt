-- Laws of putting frames: what the frame writer leaves at the front of a buffer, and the parts of a call's frames.
-- Assumes nothing.
use Prim.Native.Nat.{ℕ, ◌+◌, ◌-◌, ◌≤◌, ◌<◌}
use mathlib.Core.Path.{◌≡◌, refl, sym, ap, ◌∙◌}
use mathlib.Core.Logic.{⊎_elim}
use mathlib.Core.List.{List, [], ◌++◌, append-nil, append_assoc}
use mathlib.Core.Bool.{Bool, true, false, cond}
use native.Mathlib.Nat.{add-zero}
use native.Mathlib.Omega.{arith}
use borrow.Author.Tests.{le-leb, lt-leb}
use borrow.Rule.Slice.PartMut.{mid_of, put_mid, mid_len, put_same}
use lib.Dec.{leb}
use lib.ListN.{length, length-append, length-drop, take, drop, drop_of_length-le}
use lib.Seq.{sets, sets-eq, take_all, drop-drop, take-append_seam}
use Rattle.octets.specs.Put.{Wrote, Put}
use Rattle.octets.proofs.digits.DigitLaws.{lt_or_le}
use Rattle.octets.proofs.writing.PutLaws.{wrote_front}
use Rattle.ipc.specs.declared.writer.Given.{Given}
use Rattle.ipc.specs.Writer.{payload_of, frame_of, write_answer, buffer_after, Leaves}
use Rattle.desk.specs.Command.{message_frame, Writable}
use Rattle.desk.proofs.writing.Writes.{writable_answer, writable_short}
use Rattle.ipc.specs.declared.writer.WriteRefusal.{WriteRefusal}
use Rattle.std.specs.Prelude.{Result, Ok, Err}

-- ---- the front of a buffer
-- a buffer that begins with some bytes, as many as a count
pub record Front (bytes buffer : List ℕ) (n : ℕ) : Type 0 where
  pub counted : n ≡ length bytes
  pub front : take n buffer ≡ bytes
  pub inside : n ≤ length buffer

front_of : (bytes rest buffer : List ℕ) (n : ℕ) → n ≡ length bytes → buffer ≡ bytes ++ rest → Front bytes buffer n
front_of bytes rest buffer n e b =
    record {
      counted = e;
      front = rw (b, e) (take-append_seam bytes rest);
      inside = rw b (omega (arith, length-append bytes rest));
    }

-- bytes that were written from the start
pub front_wrote : {bytes before after : List ℕ} {n : ℕ} → length bytes ≤ length before → Wrote before 0 bytes after n → Front bytes after n
front_wrote {bytes} {before} {after} {n} h w = front_of bytes (drop (length bytes) before) after n (omega (arith, w.ended)) (wrote_front h w)

-- the count of the bytes that are taken
pub front_count : {bytes buffer : List ℕ} {n : ℕ} → Front bytes buffer n → n ≡ length (take n buffer)
front_count f = f.counted ∙ ap length (sym f.front)

-- ---- the frame writer, lent a buffer from an offset on
module _ (before : List ℕ) (at : ℕ) (inside : at ≤ length before) where
  abbrev rest : ℕ
  rest = length before - at

  mid_is : mid_of at rest before ≡ drop at before
  mid_is = take_all rest (drop at before) (omega (arith, length-drop at before))

  room_is : length (mid_of at rest before) ≡ rest
  room_is = mid_len at (length before) before (omega arith)

  put_is : (part : List ℕ) → put_mid at rest before part ≡ take at before ++ part
  put_is part =
      ap (λ (l : List ℕ). take at before ++ (part ++ l)) (drop_of_length-le (drop at before) {i = rest} (omega (arith, length-drop at before)))
      ∙ ap (λ (l : List ℕ). take at before ++ l) (append-nil part)

  module _ (tag key : ℕ) (given : Given) (s : List ℕ) (w : Writable tag key given s) {r : Result ℕ WriteRefusal} {part : List ℕ}
      (o : Leaves (write_answer key given s tag (length (mid_of at rest before))) (payload_of key given s tag) (mid_of at rest before) r part) where
    abbrev frame : List ℕ
    frame = message_frame tag key given s

    -- an answer with a count: the frame has room, and it is the count
    module _ (n : ℕ) (e : r ≡ Ok n) where
      counts : (n ≡ length frame) × (at + length frame ≤ length before)
      counts =
          ⊎_elim
          (λ (short : rest < length frame).
          let q : ◌≡◌ {A = Result ℕ WriteRefusal} (Ok n) (Err WriteRefusal.Room) = sym e ∙ o.answered ∙ writable_short tag key given s (length (mid_of at rest before)) w (omega (arith, room_is, short)) in
          let z : ◌≡◌ {A = ℕ} 0 1 = cc in
          absurd (omega arith))
          (λ (fits : length frame ≤ rest).
          let q : ◌≡◌ {A = Result ℕ WriteRefusal} (Ok n) (Ok (length frame)) = sym e ∙ o.answered ∙ writable_answer tag key given s (length (mid_of at rest before)) w (omega (arith, room_is, fits)) in
          let same : n ≡ length frame = cc in
          (same, omega (arith, fits, inside)))
          (lt_or_le rest (length frame))

      part_is : part ≡ frame ++ drop (at + length frame) before
      unfolding message_frame
      part_is =
          o.buffer
          ∙ ap (λ (x : Result ℕ WriteRefusal). buffer_after x (frame_of (payload_of key given s tag)) (mid_of at rest before)) e
          ∙ ap (λ (l : List ℕ). frame ++ l) (ap (drop (length frame)) mid_is ∙ drop-drop (length frame) at before)

      pub part_counted : at + n ≤ length before
      part_counted = omega (arith, counts.0, counts.1)

      pub part_put : Put before at frame (put_mid at rest before part) (at + n)
      part_put =
          let fits : leb (at + length frame) (length before) ≡ true = le-leb (at + length frame) (length before) counts.1 in
          record {
            stored = put_is part ∙ ap (λ (l : List ℕ). take at before ++ l) part_is ∙ sym (append_assoc (take at before) frame (drop (at + length frame) before)) ∙ sym (sets-eq frame before at counts.1) ∙ ap (λ b. cond b (sets before at frame) before) (sym fits);
            ended = ap (λ (k : ℕ). at + k) counts.0 ∙ ap (λ b. cond b (at + length frame) at) (sym fits);
          }

    -- a refusal: the frame has no room
    pub part_kept : (refusal : WriteRefusal) → r ≡ Err refusal → Put before at frame (put_mid at rest before part) at
    part_kept refusal e =
        ⊎_elim
        (λ (short : rest < length frame).
        let tight : leb (at + length frame) (length before) ≡ false = lt-leb (at + length frame) (length before) (omega (arith, short, inside)) in
        let kept : part ≡ mid_of at rest before = o.buffer ∙ ap (λ (x : Result ℕ WriteRefusal). buffer_after x (frame_of (payload_of key given s tag)) (mid_of at rest before)) e in
        record {
          stored = ap (put_mid at rest before) kept ∙ put_same at rest before ∙ ap (λ b. cond b (sets before at frame) before) (sym tight);
          ended = ap (λ b. cond b (at + length frame) at) (sym tight);
        })
        (λ (fits : length frame ≤ rest).
        let q : ◌≡◌ {A = Result ℕ WriteRefusal} (Err refusal) (Ok (length frame)) = sym e ∙ o.answered ∙ writable_answer tag key given s (length (mid_of at rest before)) w (omega (arith, room_is, fits)) in
        let z : ◌≡◌ {A = ℕ} 0 1 = cc in
        absurd (omega arith))
        (lt_or_le rest (length frame))

-- an offset past the buffer
pub put_past : (before : List ℕ) (at : ℕ) (bytes : List ℕ) → length before < at → Put before at bytes before at
put_past before at bytes h =
    let tight : leb (at + length bytes) (length before) ≡ false = lt-leb (at + length bytes) (length before) (omega arith) in
    record { stored = ap (λ b. cond b (sets before at bytes) before) (sym tight); ended = ap (λ b. cond b (at + length bytes) at) (sym tight) }

-- ---- nothing put
pub put_nothing : (a : List ℕ) (i : ℕ) → Put a i [] a i
put_nothing a i = record { stored = same (leb (i + 0) (length a)); ended = offset (leb (i + 0) (length a)) }
  where
    same : (b : Bool) → a ≡ cond b a a
    same true = refl
    same false = refl

    offset : (b : Bool) → i ≡ cond b (i + 0) i
    offset true = sym (add-zero i)
    offset false = refl
