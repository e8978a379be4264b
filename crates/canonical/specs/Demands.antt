-- Statements of sorting as a whole (document 02, request 06); `Accepted`, `Outcome`, `sorted_into` and `outcome_of` are to be
-- believed. Each is a type; its proof stands in proofs/ under the same name in lower case. A name with For is the statement over
-- any build, so that a wrong one can be refuted by it (Worthless).
-- Assumes nothing.
use Rattle.std.specs.Prelude.{ℕ, ◌≡◌, ◌↔◌, false, cond, List, Result, Ok, Err, leb, length}
use Rattle.bencode.specs.declared.profile.Profile.{Profile}
use Rattle.bencode.specs.Judge.{Means, Judged}
use Rattle.octets.specs.Bytes.{same}
use Rattle.bencode.specs.Value.{Value, list, dictionary, no_value, value, Entries, entry, encode, WellFormed}
use Rattle.bencode.specs.Walk.{payload_at}
use Rattle.canonical.specs.declared.sorter.SortRefusal.{SortRefusal}
use Rattle.canonical.specs.Answer.{largest_payload, refusal_code, refusal_offset, sort_answer}
use Rattle.canonical.specs.Order.{sorted}
use Rattle.canonical.specs.Same.{SameValue}
use Rattle.canonical.specs.SortWalk.{sorted_payload}

-- a profile accepts a payload
abbrev pub Accepted : Profile → List ℕ → Type 0
Accepted p s = payload_at p s ≡ Ok (length s)

-- ---- the answer
-- what comes out: a count and bytes, or a refusal by code and offset
pub data Outcome : Type 0 where
  written : ℕ → List ℕ → Outcome
  refused : ℕ → ℕ → Outcome

-- what a value comes to where so many bytes are lent: 44 where its encoding has more
abbrev pub sorted_into : ℕ → Value → Outcome
sorted_into room v = cond (leb (length (encode v)) room) (written (length (encode (sorted v))) (encode (sorted v))) (refused 44 0)

-- what an answer says, where some bytes were to be written
abbrev pub outcome_of : List ℕ → Result ℕ SortRefusal → Outcome
outcome_of bytes (Ok n) = written n bytes
outcome_of bytes (Err r) = refused (refusal_code r) (refusal_offset r)

-- the answer by the grammar: 4 over the limit, then the loose walk's fault, then what the value comes to
abbrev pub SortsJudged : Type 0
SortsJudged = (room : ℕ) (s : List ℕ) → Judged Profile.Loose largest_payload 4 refused (sorted_into room) s (outcome_of (sorted_payload s) (sort_answer room s))

-- ---- what is written
-- an accepted payload is written as the encoding of its value with its dictionaries sorted at every level
abbrev pub SortsPayload : Type 0
SortsPayload = (s : List ℕ) (v : Value) → Means Profile.Loose s v → sorted_payload s ≡ encode (sorted v)

-- two accepted payloads come out as equal bytes exactly when they mean the same value
abbrev pub SortsToOneFor : (List ℕ → List ℕ) → Type 0
SortsToOneFor sort = (s t : List ℕ) (v w : Value) → Means Profile.Loose s v → Means Profile.Loose t w → (sort s ≡ sort t) ↔ SameValue v w

abbrev pub SortsToOne : Type 0
SortsToOne = SortsToOneFor sorted_payload

-- what comes out of an accepted payload is accepted by the strict profile and means the same value
abbrev pub SortedIsStrictFor : (List ℕ → List ℕ) → Type 0
SortedIsStrictFor sort = (s : List ℕ) (v : Value) → Means Profile.Loose s v → Accepted Profile.Strict (sort s) × (w : Value) × Means Profile.Strict (sort s) w × SameValue v w

abbrev pub SortedIsStrict : Type 0
SortedIsStrict = SortedIsStrictFor sorted_payload

-- what comes out of an accepted payload is as long as the payload
abbrev pub SortedLength : Type 0
SortedLength = (s : List ℕ) → Accepted Profile.Loose s → length (sorted_payload s) ≡ length s

-- a payload that the strict profile accepts comes out as it is
abbrev pub StrictStays : Type 0
StrictStays = (s : List ℕ) → Accepted Profile.Strict s → sorted_payload s ≡ s

-- sorting twice changes nothing
abbrev pub SortsOnce : Type 0
SortsOnce = (s : List ℕ) → Accepted Profile.Loose s → sorted_payload (sorted_payload s) ≡ sorted_payload s

-- what `SortedIsStrict` says leaves no choice: any build of which it holds writes the same bytes
abbrev pub OneSorter : Type 0
OneSorter = (sort : List ℕ → List ℕ) → SortedIsStrictFor sort → (s : List ℕ) → Accepted Profile.Loose s → sort s ≡ sorted_payload s

-- ---- what it is to mean the same
-- every value means the same as itself; of well-formed ones, what means the same does so both ways, and as a third does
pub record SameIsEquivalence : Type 0 where
  pub self : (v : Value) → SameValue v v
  pub turned : (levels : ℕ) (v w : Value) → WellFormed Profile.Loose levels v → WellFormed Profile.Loose levels w → SameValue v w → SameValue w v
  pub joined : (levels : ℕ) (u v w : Value) → WellFormed Profile.Loose levels u → WellFormed Profile.Loose levels v → WellFormed Profile.Loose levels w → SameValue u v → SameValue v w → SameValue u w

-- entries with different keys may be exchanged
abbrev pub EntriesExchange : Type 0
EntriesExchange = (j k : List ℕ) (v w : Value) (es : Entries) → same j k ≡ false → SameValue (dictionary (entry j v (entry k w es))) (dictionary (entry k w (entry j v es)))

-- items of a list may not, but where they mean the same
abbrev pub ItemsStay : Type 0
ItemsStay = (v w : Value) → SameValue (list (value v (value w no_value))) (list (value w (value v no_value))) → SameValue v w
