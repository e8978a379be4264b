-- Pinned by `SortsPayload` and, with no order but the strict profile's, by `OneSorter`; of public functions, `sort` cites
-- `sorted_payload`. How the sorter goes over a payload that has been walked: by offsets, with no value in sight. A loop has at
-- most as many turns as the payload has bytes, which is enough.
-- Assumes nothing.
use Rattle.std.specs.Prelude.{ℕ, zero, suc, ◌+◌, ◌≤◌, ◌≡◌, Bool, true, false, cond, List, [], ◌∷◌, ◌++◌, Option, None, Some, eqb, length, Result, Ok, Err}
use Rattle.octets.specs.Bytes.{byte_at, slice, less, Begins}
use Rattle.bencode.specs.declared.fault.Fault.{Fault}
use Rattle.bencode.specs.declared.profile.Profile.{Profile}
use Rattle.bencode.specs.declared.strings.Text.{Text}
use Rattle.bencode.specs.Depth.{largest_depth}
use Rattle.bencode.specs.Letters.{letter_d, letter_e, letter_l}
use Rattle.bencode.specs.Loop.{LoopStep, next, done, repeat_from}
use Rattle.bencode.specs.Strings.{string_at, text_of}
use Rattle.bencode.specs.Skip.{skip_value}
use Rattle.bencode.specs.Value.{Value, encode, WellFormed}
use Rattle.canonical.specs.declared.select.Pick.{Pick}
use Rattle.canonical.specs.declared.select.Place.{Place}
use Rattle.canonical.specs.Order.{sorted}

-- ---- what has been written of a dictionary
-- no entry, or those with keys up to one
pub data Bound : Type 0 where
  nothing : Bound
  up_to : List ℕ → Bound

-- is a key above those written
abbrev pub is_past : Bound → List ℕ → Bool
is_past nothing key = true
is_past (up_to k) key = less k key

-- ---- an entry
-- the one at an offset, whose key goes from an offset up to another
abbrev pub entry_at : ℕ → ℕ → ℕ → Pick
entry_at at begin stop = record { at = at; start = begin; end = stop }

-- its key
abbrev pub key_of : List ℕ → Pick → List ℕ
key_of s p = slice s p.start p.end

-- its key is a part of the payload, and it starts at the payload's end at the latest
abbrev pub Stands : List ℕ → Pick → Type 0
Stands s p = (p.at ≤ length s) × (p.start ≤ p.end) × (p.end ≤ length s)

-- where the next entry is looked for: at an offset, or past the value there
abbrev pub entry_from : List ℕ → Place → ℕ
entry_from s (Place.Entry at) = at
entry_from s (Place.Value at) = skip_value s at

-- a step of the walk over the entries: none where no key stands; else the entry at the offset, whose key starts no earlier, and the
-- offset after it
abbrev pub EntryStep : List ℕ → ℕ → Option Pick → ℕ → Type 0
EntryStep s at None after = (f : Fault) × (string_at s at ≡ Err f)
EntryStep s at (Some p) after = (string_at s at ≡ Ok (text_of p.start p.end)) × (p.at ≡ at) × (after ≡ skip_value s p.end) × (p.at ≤ p.start) × Stands s p

-- ---- an entry that was picked, if one was
-- what has been written, where it was the last
abbrev pub bound_of : List ℕ → Option Pick → Bound
bound_of s None = nothing
bound_of s (Some p) = up_to (key_of s p)

abbrev pub Inside : List ℕ → Option Pick → Type 0
Inside s None = Unit {0}
Inside s (Some p) = Stands s p

-- is a key below its own; any key is below none
abbrev pub is_below : List ℕ → Option Pick → List ℕ → Bool
is_below s None key = true
is_below s (Some p) key = less key (key_of s p)

-- ---- do the keys rise
abbrev pub rise_text : List ℕ → Bound → Result Text Fault → LoopStep Bound Bool
rise_text s b (Ok t) = cond (is_past b (slice s t.start t.end)) (next (skip_value s t.end) (up_to (slice s t.start t.end))) (done false)
rise_text s b (Err f) = done true

abbrev pub rise_step : List ℕ → ℕ → Bound → LoopStep Bound Bool
rise_step s at b = rise_text s b (string_at s at)

-- do the keys of the entries from an offset on rise, past a bound
unfoldable pub rises_at : List ℕ → ℕ → Bound → Bool
rises_at s at b = repeat_from s (rise_step s) true at b

-- ---- the entry with the least key past a bound
-- the better of the best so far and an entry
abbrev pub better_at : List ℕ → Option Pick → Pick → Option Pick
better_at s best p = cond (is_below s best (key_of s p)) (Some p) best

-- the best after that entry, which counts where its key is past a bound
abbrev pub preferred_at : List ℕ → Bound → Option Pick → Pick → Option Pick
preferred_at s b best p = cond (is_past b (key_of s p)) (better_at s best p) best

abbrev pub least_text : List ℕ → Bound → ℕ → Option Pick → Result Text Fault → LoopStep (Option Pick) (Option Pick)
least_text s b at best (Ok t) = next (skip_value s t.end) (preferred_at s b best (entry_at at t.start t.end))
least_text s b at best (Err f) = done best

abbrev pub least_step : List ℕ → Bound → ℕ → Option Pick → LoopStep (Option Pick) (Option Pick)
least_step s b at best = least_text s b at best (string_at s at)

-- that entry, of those from an offset on, after the best so far
unfoldable pub least_at : List ℕ → Bound → ℕ → Option Pick → Option Pick
least_at s b at best = repeat_from s (least_step s b) None at best

-- ---- what is written, where `value` is what is written for the value at an offset
-- at most n values from an offset on, up to an `e`; each has as many bytes as are written for it
unfoldable pub values_from : (ℕ → List ℕ) → List ℕ → ℕ → ℕ → List ℕ
values_from value s zero at = []
values_from value s (suc n) at = cond (eqb (byte_at s at) letter_e) [] (value at ++ values_from value s n (at + length (value at)))

-- the entry that was picked, which is a key and a value, and what comes after it
abbrev pub chosen : (ℕ → List ℕ) → List ℕ → Option Pick → (Bound → List ℕ) → List ℕ
chosen value s None rest = []
chosen value s (Some p) rest = values_from value s 2 p.at ++ rest (up_to (key_of s p))

-- at most n entries past a bound, the least key first
unfoldable pub selected : (ℕ → List ℕ) → List ℕ → ℕ → ℕ → Bound → List ℕ
selected value s first zero b = []
selected value s first (suc n) b = chosen value s (least_at s b first None) (λ c. selected value s first n c)

-- the entries of a dictionary: as they stand where their keys rise
unfoldable pub entries_at : (ℕ → List ℕ) → List ℕ → ℕ → List ℕ
entries_at value s first = cond (rises_at s first nothing) (values_from value s (length s) first) (selected value s first (length s) nothing)

-- a string or an integer at an offset
abbrev pub copied_at : List ℕ → ℕ → List ℕ
copied_at s at = slice s at (skip_value s at)

-- the value at an offset, with so many levels left
unfoldable pub sorted_at : ℕ → List ℕ → ℕ → List ℕ
sorted_at zero s at = copied_at s at
sorted_at (suc levels) s at =
    cond (eqb (byte_at s at) letter_l) (letter_l ∷ (values_from (λ to. sorted_at levels s to) s (length s) (at + 1) ++ (letter_e ∷ [])))
    (cond (eqb (byte_at s at) letter_d) (letter_d ∷ (entries_at (λ to. sorted_at levels s to) s (at + 1) ++ (letter_e ∷ [])))
    (copied_at s at))

-- what is written for a payload
abbrev pub sorted_payload : List ℕ → List ℕ
sorted_payload s = sorted_at largest_depth s 0

-- ---- the statement
-- where a well-formed value stands, its sorted encoding is written
abbrev pub SortsAt : Type 0
SortsAt = (levels : ℕ) (v : Value) (s : List ℕ) (at end : ℕ) → WellFormed Profile.Loose levels v → Begins s at (encode v) end → sorted_at levels s at ≡ encode (sorted v)
