-- A text put into its bytes, part by part.
-- Assumes nothing.
use Prim.Native.Nat.{ℕ, ◌+◌, ◌≤◌, ◌<◌, ◌^◌}
use mathlib.Core.Path.{◌≡◌, refl}
use mathlib.Core.List.{List, [], ◌∷◌, ◌++◌, flatten}
use native.Mathlib.Omega.{arith}
use lib.ListN.{length, length-append}
use Rattle.octets.specs.Numerals.{decimal}
use Rattle.octets.specs.Put.{Wrote, Put}
use Rattle.octets.proofs.digits.DigitLaws.{length_below}
use Rattle.octets.proofs.writing.PutLaws.{Writing, start, finish, next_put, wrote_none, wrote_length, wrote_front, wrote_then}
use Rattle.strip.specs.declared.output.Output.{Output}
use Rattle.strip.specs.Line.{space, newline, blank, output_of, call_line, frames_text, call_text}

abbrev pub word_parts : List ℕ → ℕ → List (List ℕ)
word_parts word n = word ∷ decimal n ∷ newline ∷ []

abbrev pub call_parts : ℕ → ℕ → ℕ → List (List ℕ)
call_parts kind code count = decimal kind ∷ space ∷ decimal code ∷ space ∷ decimal count ∷ newline ∷ []

-- ---- room
byte_length : (n : ℕ) → n < 256 → length (decimal n) ≤ 3
byte_length n h = length_below 3 n (omega arith) (omega arith)

word_length : (n : ℕ) → n < 2 ^ 64 → length (decimal n) ≤ 20
word_length n h = length_below 20 n (omega arith) (omega arith)

word_room : (word : List ℕ) (n : ℕ) → length word ≤ 16 → n < 2 ^ 64 → length (flatten (word_parts word n)) ≤ 48
unfolding flatten
word_room word n g h = omega (arith, g, length-append word (decimal n ++ newline), length-append (decimal n) newline, word_length n h)

pub call_room : (kind code count : ℕ) → kind < 256 → code < 256 → count < 2 ^ 64 → length (flatten (call_parts kind code count)) ≤ 48
unfolding flatten
call_room kind code count h g f =
    omega (
      arith,
      length-append (decimal kind) (space ++ (decimal code ++ (space ++ (decimal count ++ newline)))),
      length-append (decimal code) (space ++ (decimal count ++ newline)),
      length-append (decimal count) newline,
      byte_length kind h,
      byte_length code g,
      word_length count f,
    )

pub frames_room : (bytes : List ℕ) → length (frames_text bytes) ≤ length bytes + 1
unfolding frames_text flatten
frames_room [] = omega arith
frames_room (b ∷ bs) = omega (arith, length-append (b ∷ bs) newline)

-- ---- the first and the last part
pub word_start : (word : List ℕ) (n : ℕ) → length word ≤ 16 → n < 2 ^ 64 → Writing blank 0 (word_parts word n) blank 0 (word_parts word n)
word_start word n g h = let room = word_room word n g h in start blank 0 (word_parts word n) (omega (arith, room))

pub call_start : (out : List ℕ) (kind code count : ℕ) → 48 ≤ length out → kind < 256 → code < 256 → count < 2 ^ 64 → Writing out 0 (call_parts kind code count) out 0 (call_parts kind code count)
call_start out kind code count l h g f = let room = call_room kind code count h g f in start out 0 (call_parts kind code count) (omega (arith, room, l))

-- all is put: the text
text_done : (t bytes : List ℕ) (n : ℕ) → length t ≤ 528 → Wrote blank 0 t bytes n → ◌≡◌ {A = Output} (record { bytes = bytes; length = n }) (output_of t)
unfolding output_of
text_done t bytes n h w =
    let room : length t ≤ length blank = omega (arith, h) in
    let front : bytes ≡ _ = wrote_front room w in
    let count : n ≡ length t = omega (arith, w.ended) in
    rw (front, count) refl

pub word_done : (word : List ℕ) (k : ℕ) (bytes : List ℕ) (n : ℕ) → Writing blank 0 (word_parts word k) blank 0 (word_parts word k)
    → Writing blank 0 (word_parts word k) bytes n [] → ◌≡◌ {A = Output} (record { bytes = bytes; length = n }) (output_of (flatten (word_parts word k)))
word_done word k bytes n w v = let room : length (flatten (word_parts word k)) ≤ 528 = omega (arith, w.room) in text_done (flatten (word_parts word k)) bytes n room (finish v)

-- ---- the bytes that a call wrote, on a line
pub no_frames : (out : List ℕ) (at : ℕ) (bytes : List ℕ) → length bytes ≡ 0 → Wrote out at (frames_text bytes) out at
unfolding frames_text
no_frames out at [] h = wrote_none out at
no_frames out at (b ∷ bs) h = let z : ⊥ = omega (arith, h) in absurd z

frames_parts : (bytes : List ℕ) → (length bytes ≡ 0 → ⊥) → frames_text bytes ≡ flatten (bytes ∷ newline ∷ [])
unfolding frames_text
frames_parts [] h = absurd (h refl)
frames_parts (b ∷ bs) h = refl

pub frames_put : {a b c bytes : List ℕ} {i j k : ℕ} → (length bytes ≡ 0 → ⊥) → i + length (frames_text bytes) ≤ length a → Put a i bytes b j → Put b j newline c k → Wrote a i (frames_text bytes) c k
frames_put {a} {b} {c} {bytes} {i} {j} {k} h room p q =
    rw (frames_parts bytes h) (finish (next_put (next_put (start a i (bytes ∷ newline ∷ []) (rw (frames_parts bytes h) at room)) p) q))

-- ---- a call's line, and the bytes it wrote on the next
module _ (kind code : ℕ) (bytes : List ℕ) (hk : kind < 256) (hc : code < 256) (hb : length bytes ≤ 479) where
  line_room : length (call_line kind code (length bytes)) ≤ 48
  unfolding call_line
  line_room = call_room kind code (length bytes) hk hc (omega (arith, hb))

  pub frames_fit : {b : List ℕ} {j : ℕ} → Wrote blank 0 (call_line kind code (length bytes)) b j → j + length (frames_text bytes) ≤ length b
  frames_fit {b} {j} w =
      let kept : length b ≡ 528 = wrote_length w in
      omega (arith, kept, w.ended, line_room, frames_room bytes, hb)

  pub call_done : {b c : List ℕ} {j k : ℕ} → Wrote blank 0 (call_line kind code (length bytes)) b j → Wrote b j (frames_text bytes) c k
      → ◌≡◌ {A = Output} (record { bytes = c; length = k }) (output_of (call_text kind code bytes))
  unfolding call_text
  call_done {b} {c} {j} {k} w v =
      let line = call_line kind code (length bytes) in
      let room : length (line ++ frames_text bytes) ≤ 528 = omega (arith, length-append line (frames_text bytes), line_room, frames_room bytes, hb) in
      text_done (line ++ frames_text bytes) c k room (wrote_then w v)
