-- To be believed. Bytes stored in a lent buffer.
-- Assumes nothing.
use Rattle.std.specs.Prelude.{ℕ, ◌+◌, ◌≡◌, cond, List, ◌++◌, leb, length, drop}
use Rattle.std.proofs.lemmas.List.Edits.{sets}

-- after is the buffer before with the bytes stored from an offset on, and end is the offset after them
pub record Wrote (before : List ℕ) (at : ℕ) (bytes after : List ℕ) (end : ℕ) : Type 0 where
  pub stored : after ≡ sets before at bytes
  pub ended : end ≡ at + length bytes

-- bytes put at an offset where they have room; where they have none, the buffer and the offset stay as they are
abbrev pub buffer_with : List ℕ → ℕ → List ℕ → List ℕ
buffer_with before at bytes = cond (leb (at + length bytes) (length before)) (sets before at bytes) before

abbrev pub offset_after : List ℕ → ℕ → List ℕ → ℕ
offset_after before at bytes = cond (leb (at + length bytes) (length before)) (at + length bytes) at

pub record Put (before : List ℕ) (at : ℕ) (bytes after : List ℕ) (end : ℕ) : Type 0 where
  pub stored : after ≡ buffer_with before at bytes
  pub ended : end ≡ offset_after before at bytes

-- bytes at the front of a buffer, which is as it was past them
abbrev pub at_front : List ℕ → List ℕ → List ℕ
at_front bytes before = bytes ++ drop (length bytes) before
