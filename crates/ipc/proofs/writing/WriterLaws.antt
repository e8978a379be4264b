-- Laws of frames that are written: their parts one after the other, the answer, and the buffer after it. They hold of any
-- payload.
-- Assumes nothing.
use Prim.Native.Nat.{ℕ, ◌+◌, ◌≤◌, ◌<◌}
use mathlib.Core.Path.{◌≡◌, refl, sym, ap, subst, ◌∙◌}
use mathlib.Core.Logic.{⊎_elim}
use mathlib.Core.List.{List, [], ◌∷◌, ◌++◌, flatten}
use native.Mathlib.Omega.{arith}
use borrow.Author.Tests.{le-leb, lt-leb}
use lib.ListN.{length, length-append}
use Rattle.octets.specs.Put.{Wrote}
use Rattle.octets.proofs.digits.DigitLaws.{lt_or_le}
use Rattle.octets.proofs.writing.PutLaws.{Writing, start, finish, wrote_front}
use Rattle.bencode.specs.Value.{encode_string}
use Rattle.ipc.specs.declared.writer.Given.{Given}
use Rattle.ipc.specs.Header.{header_length, largest_payload}
use Rattle.ipc.specs.Hex.{hex_header}
use Rattle.ipc.specs.Keys.{key_text, class_of}
use Rattle.ipc.specs.Writer.{encode_given, encode_tag, payload_of, written_code, written_count, frame_of, fitted, length_fault, Leaves}
use Rattle.ipc.proofs.headers.HexLaws.{header_length_lem}
use Rattle.ipc.specs.declared.writer.WriteRefusal.{WriteRefusal}
use Rattle.std.specs.Prelude.{Result, Ok, Err}

-- ---- the frame and its length
pub frame_length : (p : List ℕ) → length (frame_of p) ≡ header_length + length p
unfolding frame_of
frame_length p = length-append (hex_header (length p)) p ∙ omega (arith, header_length_lem (length p))

-- ---- the length of a message's payload
parts_length : (a b c : List ℕ) → length (108 ∷ a ++ (b ++ (c ++ (101 ∷ [])))) ≡ length a + length b + length c + 2
parts_length a b c = omega (arith, length-append a (b ++ (c ++ (101 ∷ []))), length-append b (c ++ (101 ∷ [])), length-append c (101 ∷ []))

pub payload_length : (key : ℕ) (given : Given) (s : List ℕ) (tag : ℕ) → length (payload_of key given s tag) ≡ length (encode_string (key_text key)) + length (encode_given (class_of key) given s) + length (encode_tag tag) + 2
unfolding payload_of flatten
payload_length key given s tag = parts_length (encode_string (key_text key)) (encode_given (class_of key) given s) (encode_tag tag)

-- ---- the parts of a frame: the header, and then those of the payload
module _ (payload : List ℕ) (parts : List (List ℕ)) (size : ℕ) (whole : flatten parts ≡ payload) (sized : size ≡ length payload) where
  frame_parts_lem : flatten (hex_header size ∷ parts) ≡ frame_of payload
  unfolding frame_of flatten
  frame_parts_lem = rw (whole, sized) refl

  -- nothing is written yet
  pub frame_start : (before : List ℕ) → length (frame_of payload) ≤ length before → Writing before 0 (hex_header size ∷ parts) before 0 (hex_header size ∷ parts)
  frame_start before h = start before 0 (hex_header size ∷ parts) (rw frame_parts_lem (omega arith))

  -- all parts are written
  pub frame_finish : {before after : List ℕ} {n : ℕ} → Writing before 0 (hex_header size ∷ parts) after n [] → Wrote before 0 (frame_of payload) after n
  frame_finish w = rw frame_parts_lem at (finish w)

-- ---- the answer and the buffer
pub fitted_count : (p : List ℕ) (room : ℕ) → length p ≤ largest_payload → header_length + length p ≤ room → fitted p room ≡ Ok (header_length + length p)
unfolding fitted
fitted_count p room small fits = rw (le-leb (length p) largest_payload small, frame_length p, le-leb (header_length + length p) room fits) refl

-- a refusal leaves the buffer as it was
pub leaves_refused : (answer : Result ℕ WriteRefusal) (payload before : List ℕ) (w : WriteRefusal) → answer ≡ Err w → Leaves answer payload before (Err w) before
leaves_refused answer payload before w e = record { answered = sym e; code = ap written_code (sym e); count = ap written_count (sym e); buffer = refl }

-- the same of an answer that is equal
pub leaves_same : {other answer r : Result ℕ WriteRefusal} {payload before after : List ℕ} → answer ≡ other → Leaves other payload before r after → Leaves answer payload before r after
leaves_same e o = record { answered = o.answered ∙ sym e; code = o.code ∙ ap written_code (sym e); count = o.count ∙ ap written_count (sym e); buffer = o.buffer }

abbrev counting : ℕ → Result ℕ WriteRefusal
counting n = Ok n

module _ (payload before : List ℕ) where
  pub leaves_43 : largest_payload < length payload → Leaves (fitted payload (length before)) payload before (Err WriteRefusal.Length) before
  unfolding fitted
  leaves_43 h = leaves_refused (fitted payload (length before)) payload before WriteRefusal.Length (rw (lt-leb (length payload) largest_payload h) refl)

  module _ (small : length payload ≤ largest_payload) where
    pub leaves_44 : length before < header_length + length payload → Leaves (fitted payload (length before)) payload before (Err WriteRefusal.Room) before
    unfolding fitted
    leaves_44 h =
        leaves_refused (fitted payload (length before)) payload before WriteRefusal.Room
        (rw (le-leb (length payload) largest_payload small, frame_length payload, lt-leb (header_length + length payload) (length before) h) refl)

    -- the frame is written: its bytes are counted
    pub leaves_count : {after : List ℕ} {n : ℕ} → header_length + length payload ≤ length before → Wrote before 0 (frame_of payload) after n
        → Leaves (fitted payload (length before)) payload before (Ok n) after
    leaves_count {n = n} h w =
        let size : length (frame_of payload) ≡ header_length + length payload = frame_length payload in
        let room : length (frame_of payload) ≤ length before = omega arith in
        let counted : n ≡ header_length + length payload = omega (arith, w.ended) in
        let answer : Ok n ≡ fitted payload (length before) = ap counting counted ∙ sym (fitted_count payload (length before) small h) in
        record {
          answered = answer;
          code = ap written_code answer;
          count = ap written_count answer;
          buffer = wrote_front room w;
        }

-- ---- the refusal of a length
module _ (size room : ℕ) where
  pub fault_43 : largest_payload < size → Err WriteRefusal.Length ≡ length_fault size room
  unfolding length_fault
  fault_43 h = rw (lt-leb size largest_payload h) refl

  module _ (small : size ≤ largest_payload) where
    pub fault_44 : room < header_length + size → Err WriteRefusal.Room ≡ length_fault size room
    unfolding length_fault
    fault_44 h = rw (le-leb size largest_payload small, lt-leb (header_length + size) room h) refl

    pub fault_none : header_length + size ≤ room → Ok tt ≡ length_fault size room
    unfolding length_fault
    fault_none h = rw (le-leb size largest_payload small, le-leb (header_length + size) room h) refl

-- a size that is a payload's length, or both are too large
pub record SizeOf (size : ℕ) (payload : List ℕ) : Type 0 where
  pub over : largest_payload < size → largest_payload < length payload
  pub is : size ≤ largest_payload → size ≡ length payload

-- no answer is a refusal and none
not_both : (w : WriteRefusal) → ◌≡◌ {A = Result (Unit {0}) WriteRefusal} (Err w) (Ok tt) → ⊥
not_both w h = let z : ◌≡◌ {A = ℕ} 0 1 = cc in omega arith

module _ (payload before : List ℕ) (size : ℕ) (sized : SizeOf size payload) (r : Result (Unit {0}) WriteRefusal) (e : r ≡ length_fault size (length before)) where
  -- a refusal under the name that the code gives it
  named : (k w : WriteRefusal) → Err k ≡ length_fault size (length before) → r ≡ Err w → Leaves (fitted payload (length before)) payload before (Err k) before → Leaves (fitted payload (length before)) payload before (Err w) before
  named k w q h o = let same : ◌≡◌ {A = Result (Unit {0}) WriteRefusal} (Err k) (Err w) = q ∙ sym e ∙ h in let i : k ≡ w = cc in subst (λ (x : WriteRefusal). Leaves (fitted payload (length before)) payload before (Err x) before) i o

  pub length_refused : (w : WriteRefusal) → r ≡ Err w → Leaves (fitted payload (length before)) payload before (Err w) before
  length_refused w h =
      ⊎_elim
      (λ (l : largest_payload < size). named WriteRefusal.Length w (fault_43 size (length before) l) h (leaves_43 payload before (sized.over l)))
      (λ (l : size ≤ largest_payload). ⊎_elim
      (λ (m : length before < header_length + size). named WriteRefusal.Room w (fault_44 size (length before) l m) h (leaves_44 payload before (omega (arith, l, sized.is l)) (omega (arith, m, sized.is l))))
      (λ (m : header_length + size ≤ length before). absurd (not_both w (sym h ∙ e ∙ sym (fault_none size (length before) l m))))
      (lt_or_le (length before) (header_length + size)))
      (lt_or_le largest_payload size)

  module _ (none : r ≡ Ok tt) where
    pub length_small : size ≤ largest_payload
    length_small = ⊎_elim
        (λ (l : largest_payload < size). absurd (not_both WriteRefusal.Length (fault_43 size (length before) l ∙ sym e ∙ none)))
        (λ (l : size ≤ largest_payload). l)
        (lt_or_le largest_payload size)

    pub length_room : header_length + size ≤ length before
    length_room = ⊎_elim
        (λ (m : length before < header_length + size). absurd (not_both WriteRefusal.Room (fault_44 size (length before) length_small m ∙ sym e ∙ none)))
        (λ (m : header_length + size ≤ length before). m)
        (lt_or_le (length before) (header_length + size))
