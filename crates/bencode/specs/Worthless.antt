-- Statements: wrong builds fall by the demand itself (document 02, requests 03 and 09).
-- Assumes nothing.
use Rattle.std.specs.Prelude.{ℕ, ◌≡◌, Bool, true, cond, ◌&&◌, List, [], ◌∷◌, leb, ltb, length, replicate, Ok, Err, Result}
use Rattle.bencode.specs.declared.profile.Profile.{Profile}
use Rattle.bencode.specs.declared.tokens.Bracket.{Bracket}
use Rattle.bencode.specs.Depth.{largest_depth}
use Rattle.bencode.specs.Flat.{outside, Levels, at_start, turn}
use Rattle.bencode.specs.Loop.{LoopStep, next, done, repeat_from}
use Rattle.bencode.specs.Utf8.{is_text}
use Rattle.bencode.specs.Walk.{whole, payload_at}
use Rattle.bencode.specs.Demands.{KeyTextFor, SamePayloadWith}
use Rattle.bencode.specs.Fault.{Walk, cause_code}

-- a recogniser that differs from ours, be it on one key only
abbrev pub DifferentFalls : Type 0
DifferentFalls = (recognise : List ℕ → Bool) (key : List ℕ) → (recognise key ≡ is_text key → ⊥) → KeyTextFor recognise → ⊥

-- one that takes any bytes, as document 01 did
abbrev pub AnyBytesFalls : Type 0
AnyBytesFalls = KeyTextFor (λ key. true) → ⊥

-- are bytes ASCII, none of them 0
unfoldable pub is_ascii : List ℕ → Bool
is_ascii [] = true
is_ascii (b ∷ bs) = (leb 1 b && leb b 0x7F) && is_ascii bs

-- a recogniser that takes those alone
abbrev pub AsciiAloneFalls : Type 0
AsciiAloneFalls = KeyTextFor is_ascii → ⊥

-- ---- request 09: walks by one loop
-- a step with what it goes on with altered
abbrev pub altered_step : (Levels → Levels) → LoopStep Levels Walk → LoopStep Levels Walk
altered_step alter (next at x) = next at (alter x)
altered_step alter (done walk) = done walk

-- our turn, after which the levels that are open are altered, by those before and those after it
abbrev pub altered : (Levels → Levels → Levels) → Profile → List ℕ → ℕ → Levels → LoopStep Levels Walk
altered alter p s at x = altered_step (alter x) (turn p s at x)

-- the row forgets the outer levels
abbrev pub forgotten : Levels → Levels → Levels
forgotten before after = record { row = replicate largest_depth outside; depth = after.depth; level = after.level; valued = after.valued }

abbrev pub RowForgottenFalls : Type 0
RowForgottenFalls = (endless : Walk) → SamePayloadWith endless (altered forgotten) → ⊥

-- a dictionary is taken for a list
abbrev pub list_marked : Levels → Levels → Levels
list_marked before after = record { row = after.row; depth = after.depth; level = record { bracket = Bracket.List; seen = after.level.seen }; valued = after.valued }

abbrev pub DictionaryAsListFalls : Type 0
DictionaryAsListFalls = (endless : Walk) → SamePayloadWith endless (altered list_marked) → ⊥

-- a level that closes stays the innermost, with its bracket and its keys
abbrev pub level_left : Levels → Levels → Levels
level_left before after = cond (ltb after.depth before.depth) (record { row = after.row; depth = after.depth; level = before.level; valued = after.valued }) after

abbrev pub InnerKeysKeptFalls : Type 0
InnerKeysKeptFalls = (endless : Walk) → SamePayloadWith endless (altered level_left) → ⊥

-- a level that opens is not counted
abbrev pub uncounted : Levels → Levels → Levels
uncounted before after = cond (ltb before.depth after.depth) (record { row = after.row; depth = before.depth; level = after.level; valued = after.valued }) after

abbrev pub LevelUncountedFalls : Type 0
LevelUncountedFalls = (endless : Walk) → SamePayloadWith endless (altered uncounted) → ⊥

-- no payload comes to what a walk that ends at 0 comes to: no value ends there, and no fault there is that of bytes that follow
abbrev pub NoneEndsAtZero : Type 0
NoneEndsAtZero = (p : Profile) (s : List ℕ) → whole s (Ok 0) ≡ payload_at p s → ⊥

-- turns that do not end in as many as there are bytes and one, be it on one payload in one profile: the loop then answers what it
-- is given for that, here `Ok 0`
abbrev pub EndlessFalls : Type 0
EndlessFalls = (step : Profile → List ℕ → ℕ → Levels → LoopStep Levels Walk) (p : Profile) (s : List ℕ) → ((answer : Walk) → repeat_from s (step p s) answer 0 at_start ≡ answer) → SamePayloadWith (Ok 0) step → ⊥

-- a walk with code and offset for a fault
abbrev pub coded : Walk → Result ℕ (ℕ × ℕ)
coded (Ok end) = Ok end
coded (Err f) = Err (cause_code f.cause, f.offset)

-- the end of a payload after such a walk
abbrev pub coded_whole : List ℕ → Result ℕ (ℕ × ℕ) → Result ℕ (ℕ × ℕ)
coded_whole s (Ok end) = coded (whole s (Ok end))
coded_whole s (Err n) = Err n

-- the same of a loop with any state, and with code and offset for a fault: here it is given a fault of code 0
abbrev pub EndlessCodesFall : Type 1
EndlessCodesFall = (X : Type 0) (start : X) (step : Profile → List ℕ → ℕ → X → LoopStep X (Result ℕ (ℕ × ℕ))) (p : Profile) (s : List ℕ)
    → ((answer : Result ℕ (ℕ × ℕ)) → repeat_from s (step p s) answer 0 start ≡ answer)
    → ((q : Profile) (t : List ℕ) → coded_whole t (repeat_from t (step q t) (Err (0, 0)) 0 start) ≡ coded (payload_at q t)) → ⊥

-- a walk that accepts everything
abbrev pub EverythingFalls : Type 0
EverythingFalls = (endless : Walk) → SamePayloadWith endless (λ p s at x. done (Ok (length s))) → ⊥
