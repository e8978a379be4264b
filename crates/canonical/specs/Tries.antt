-- Statements, by computing: payloads and what the sorter writes for them, and its answers (document 02, request 06).
-- Assumes nothing.
use Rattle.std.specs.Prelude.{ℕ, ◌≡◌, List, [], ◌∷◌, Result, Ok, Err, map}
use Prim.Native.String.{String}
use Rattle.octets.specs.Ascii.{ascii}
use Rattle.bencode.specs.Fault.{fault}
use Rattle.canonical.specs.declared.sorter.SortRefusal.{SortRefusal}
use Rattle.canonical.specs.Answer.{sort_answer, sort_code, sort_offset}
use Rattle.canonical.specs.SortWalk.{sorted_payload}
use Rattle.bencode.specs.declared.fault.Cause.{Cause}

-- a payload, and what is written for it
pub record Try : Type 0 where
  pub payload : String
  pub written : String

abbrev pub try : String → String → Try
try payload written = record { payload = payload; written = written }

-- at both levels; by bytes and not by length, the empty key first; a key before what it begins; a dictionary in a list in a
-- dictionary; items of a list stay; what is sorted stays
unfoldable pub tries : List Try
tries =
    try "d1:bi1e1:ad1:di2e1:ci3eee" "d1:ad1:ci3e1:di2ee1:bi1ee" ∷
    try "d1:b0:2:ab0:0:0:e" "d0:0:2:ab0:1:b0:e" ∷
    try "d2:ab0:1:a0:e" "d1:a0:2:ab0:e" ∷
    try "d1:ald1:y0:1:x0:eee" "d1:ald1:x0:1:y0:eee" ∷
    try "l1:b1:ae" "l1:b1:ae" ∷
    try "d1:a0:1:bdee" "d1:a0:1:bdee" ∷
    []

abbrev pub SortsTried : Type 0
SortsTried = map (λ t. sorted_payload (ascii t.payload)) tries ≡ map (λ t. ascii t.written) tries

-- an answer is a refusal, with its number and its offset
abbrev pub Refuses : Result ℕ SortRefusal → SortRefusal → ℕ → ℕ → Type 0
Refuses answer r code offset = (answer ≡ Err r) × (sort_code answer ≡ code) × (sort_offset answer ≡ offset)

-- a payload with as many bytes lent as it has; with one less, 44; where it has a fault, that comes before 44
abbrev pub AnswersTried : Type 0
AnswersTried = (sort_answer 12 (ascii "d1:b0:1:a0:e") ≡ Ok 12)
    × Refuses (sort_answer 11 (ascii "d1:b0:1:a0:e")) SortRefusal.NoRoom 44 0
    × Refuses (sort_answer 0 (ascii "d1:a0:1:a0:e")) (SortRefusal.Payload (fault Cause.RepeatedKey 6)) 8 6
