-- `sort_answer` is pinned by `SortsJudged`; the rest is to be believed. The sorter's answer, and the lent bytes after it (document
-- 02, request 06: 4, then 5 to 10, then 44).
-- Assumes nothing.
use Rattle.std.specs.Prelude.{ℕ, ◌≡◌, cond, List, Result, Ok, Err, leb, length}
use Rattle.octets.specs.Put.{at_front}
use Rattle.bencode.specs.declared.profile.Profile.{Profile}
use Rattle.bencode.specs.Walk.{payload_at}
use Rattle.canonical.specs.declared.sorter.SortRefusal.{SortRefusal}
use Rattle.bencode.specs.Fault.{Walk, cause_code}

-- the longest payload, in bytes
abbrev pub largest_payload : ℕ
largest_payload = 32768

-- a refusal's number, and the offset of the byte that it names; 0 where it names none
abbrev pub refusal_code : SortRefusal → ℕ
refusal_code SortRefusal.OverLimit = 4
refusal_code (SortRefusal.Payload f) = (cause_code f.cause)
refusal_code SortRefusal.NoRoom = 44

abbrev pub refusal_offset : SortRefusal → ℕ
refusal_offset SortRefusal.OverLimit = 0
refusal_offset (SortRefusal.Payload f) = f.offset
refusal_offset SortRefusal.NoRoom = 0

-- the answer after the walk: its fault; a refusal where fewer bytes are lent than the payload has; else as many as it has are
-- written
abbrev pub walked_answer : ℕ → List ℕ → Walk → Result ℕ SortRefusal
walked_answer room s (Err f) = Err (SortRefusal.Payload f)
walked_answer room s (Ok end) = cond (leb (length s) room) (Ok (length s)) (Err SortRefusal.NoRoom)

-- the answer to a payload where so many bytes are lent
unfoldable pub sort_answer : ℕ → List ℕ → Result ℕ SortRefusal
sort_answer room s = cond (leb (length s) largest_payload) (walked_answer room s (payload_at Profile.Loose s)) (Err SortRefusal.OverLimit)

-- the lent bytes after an answer, where some bytes were to be written: a refusal leaves them as they were
abbrev pub lent_after : List ℕ → List ℕ → Result ℕ SortRefusal → List ℕ
lent_after bytes before (Ok n) = at_front bytes before
lent_after bytes before (Err r) = before

-- the code of an answer, the offset of a refusal and the count of the bytes written; 0 for what it does not name
abbrev pub sort_code : Result ℕ SortRefusal → ℕ
sort_code (Ok n) = 0
sort_code (Err r) = refusal_code r

abbrev pub sort_offset : Result ℕ SortRefusal → ℕ
sort_offset (Ok n) = 0
sort_offset (Err r) = refusal_offset r

abbrev pub sort_count : Result ℕ SortRefusal → ℕ
sort_count (Ok n) = n
sort_count (Err r) = 0

-- what the sorter did: its answer, the numbers of that, and the whole buffer
pub record SortLeaves (answer : Result ℕ SortRefusal) (bytes before : List ℕ) (r : Result ℕ SortRefusal) (after : List ℕ) : Type 0 where
  pub answered : r ≡ answer
  pub code : sort_code r ≡ sort_code answer
  pub offset : sort_offset r ≡ sort_offset answer
  pub count : sort_count r ≡ sort_count answer
  pub buffer : after ≡ lent_after bytes before answer
