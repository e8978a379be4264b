-- To be believed, for requests 06, 10 and 14; `OneAnswer` says that every payload has one answer, `JudgesMeaning` that an
-- encoding not too long is answered by its value's meaning. How a payload of at most so many bytes is judged: by its length,
-- then by the walk, then by what its value means.
-- Assumes nothing.
use Rattle.std.specs.Prelude.{ℕ, ◌≤◌, ◌<◌, ◌≡◌, List, length, Ok, Err}
use Rattle.bencode.specs.declared.profile.Profile.{Profile}
use Rattle.bencode.specs.Depth.{largest_depth}
use Rattle.bencode.specs.Walk.{payload_at}
use Rattle.bencode.specs.Value.{Value, encode, WellFormed}
use Rattle.bencode.specs.Fault.{Walk, cause_code}

-- a payload is the encoding of a value that the profile allows
abbrev pub Means : Profile → List ℕ → Value → Type 0
Means p s v = WellFormed p largest_depth v × (s ≡ encode v)

-- over the profile, the longest payload and the code of a longer one, what a refusal by code and offset is, and what a value
-- means
module _ {A : Type 0} (p : Profile) (longest tooLong : ℕ) (refused : ℕ → ℕ → A) (meaning : Value → A) where
  -- the answer after the walk: its fault, or what the value means
  abbrev pub Walked : List ℕ → Walk → A → Type 0
  Walked s (Err f) a = a ≡ refused (cause_code f.cause) f.offset
  Walked s (Ok end) a = (v : Value) × Means p s v × (a ≡ meaning v)

  -- the answer to a payload
  pub record Judged (s : List ℕ) (a : A) : Type 0 where
    pub long : longest < length s → a ≡ refused tooLong 0
    pub short : length s ≤ longest → Walked s (payload_at p s) a

  -- every payload has one answer
  abbrev pub OneAnswer : Type 0
  OneAnswer = (s : List ℕ) → (a : A) × Judged s a × ((b : A) → Judged s b → b ≡ a)

  -- the answer to the encoding of a value, if it is not too long, is what the value means
  abbrev pub JudgesMeaning : Type 0
  JudgesMeaning = (s : List ℕ) (v : Value) → length s ≤ longest → Means p s v → Judged s (meaning v)
