-- Pinned by the promise of the walk's `dictionary`, which is over the list of earlier keys; nothing public cites it. How the key
-- rule is checked from the payload, with no such list: whether a key is text where it is read, the rest afterwards.
-- Assumes nothing.
use Rattle.std.specs.Prelude.{ℕ, ◌≤◌, length, Bool, true, false, cond, List, leb, ltb, Result, Ok, Err, Option, Some, None}
use Rattle.bencode.specs.declared.key.Seen.{Seen}
use Rattle.bencode.specs.declared.profile.Profile.{Profile}
use Rattle.bencode.specs.declared.strings.Text.{Text}
use Rattle.octets.specs.Bytes.{slice, less}
use Rattle.bencode.specs.Fault.{fault}
use Rattle.bencode.specs.Strings.{string_at}
use Rattle.bencode.specs.Utf8.{is_text}
use Rattle.bencode.specs.Entry.{entry_at}
use Rattle.bencode.specs.Marks.{place_of, is_marked, with_mark}
use Rattle.bencode.specs.declared.fault.Fault.{Fault}
use Rattle.bencode.specs.declared.fault.Cause.{Cause}

-- a string at an offset as a key: 10 there where it is no text
abbrev pub as_key : List ℕ → ℕ → Result Text Fault → Result Text Fault
as_key s at (Ok t) = cond (is_text (slice s t.start t.end)) (Ok t) (Err (fault Cause.IllFormedKey at))
as_key s at (Err f) = Err f

-- the key at an offset: where its text starts and ends, or the fault
unfoldable pub key_text_at : List ℕ → ℕ → Result Text Fault
key_text_at s at = as_key s at (string_at s at)

-- what is kept before the first entry, which is at an offset
abbrev pub none_seen : ℕ → Seen
none_seen first = record { first = first; start = 0; end = 0; marks = 0 }

-- a text lies in the payload
abbrev pub Inside : List ℕ → Text → Type 0
Inside s text = (text.start ≤ text.end) × (text.end ≤ length s)

-- the greatest key that is kept lies in the payload
abbrev pub Sound : List ℕ → Seen → Type 0
Sound s seen = (seen.start ≤ seen.end) × (seen.end ≤ length s)

-- was a key found before an offset
abbrev pub found_before : ℕ → Option ℕ → Bool
found_before end (Some at) = ltb at end
found_before end None = false

-- is the key whose value starts at `end` among the earlier keys: a search from the first entry on finds it itself at the latest
unfoldable pub used_at : List ℕ → ℕ → List ℕ → ℕ → Bool
used_at s first key end = found_before end (entry_at s key first)

-- the same, by a search only where the key's mark is there
unfoldable pub repeated_at : List ℕ → Seen → List ℕ → ℕ → Bool
repeated_at s seen key end = cond (is_marked seen.marks (place_of key)) (used_at s seen.first key end) false

-- is a key above those of the entries before an offset, of which the greatest is kept
unfoldable pub above_at : List ℕ → Seen → ℕ → List ℕ → Bool
above_at s seen at key = cond (leb at seen.first) true (less (slice s seen.start seen.end) key)

-- what is kept after a key from start up to end that is above the earlier ones
abbrev pub risen : List ℕ → Seen → ℕ → ℕ → Seen
risen s seen start end = record { first = seen.first; start = start; end = end; marks = with_mark seen.marks (place_of (slice s start end)) }

-- what is kept after any other key: its mark more
abbrev pub marked : Seen → List ℕ → Seen
marked seen key = record { first = seen.first; start = seen.start; end = seen.end; marks = with_mark seen.marks (place_of key) }

-- the check of a key at an offset that comes once and is not above the earlier ones
abbrev pub unsorted : Profile → ℕ → Seen → Result Seen Fault
unsorted Profile.Loose at seen = Ok seen
unsorted Profile.Strict at seen = Err (fault Cause.UnsortedKey at)

-- the check of a key that is text, from start up to end, whose entry is at an offset, as it is made from the payload
unfoldable pub key_at : Profile → List ℕ → Seen → ℕ → ℕ → ℕ → Result Seen Fault
key_at p s seen at start end =
    cond (above_at s seen at (slice s start end)) (Ok (risen s seen start end))
    (cond (repeated_at s seen (slice s start end) end) (Err (fault Cause.RepeatedKey at)) (unsorted p at (marked seen (slice s start end))))
