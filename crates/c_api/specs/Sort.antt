-- To be believed, but for `LimitsAgree`, which is a statement. What the sorter did, as numbers (document 02, request 06).
-- Assumes nothing.
use Rattle.std.specs.Prelude.{ℕ, ◌≡◌, List, Result}
use Rattle.canonical.specs.declared.sorter.SortRefusal.{SortRefusal}
use Rattle.canonical.specs.Answer as Sorter
use Rattle.canonical.specs.Answer.{lent_after, sort_code, sort_offset, sort_count}
use Rattle.ipc.specs.Header as Frame
use Rattle.c_api.specs.declared.sort.SortAnswer.{SortAnswer}

-- the sorter's answer
abbrev pub sort_numbers : Result ℕ SortRefusal → SortAnswer
sort_numbers a = record { code = sort_code a; offset = sort_offset a; count = sort_count a }

-- its answer, and the whole buffer
pub record SortedAs (answer : Result ℕ SortRefusal) (bytes before : List ℕ) (r : SortAnswer) (after : List ℕ) : Type 0 where
  pub answered : r ≡ sort_numbers answer
  pub buffer : after ≡ lent_after bytes before answer

-- the longest payload that the sorter takes is the longest of a frame
abbrev pub LimitsAgree : Type 0
LimitsAgree = Sorter.largest_payload ≡ Frame.largest_payload
