-- What is accepted is pinned by `AcceptsExactly`; codes and offsets are to be believed. What walking a payload finds: the offset
-- after a value, or the first fault from left to right (document 01, 'What the reader says'; document 02 for 10 and 11).
-- Assumes nothing.
use Rattle.std.specs.Prelude.{ℕ, zero, suc, ◌+◌, cond, List, [], ◌∷◌, eqb, length, Ok, Err, Result, Option, Some, None}
use Rattle.bencode.specs.declared.strings.Text.{Text}
use Rattle.bencode.specs.declared.profile.Profile.{Profile}
use Rattle.octets.specs.Bytes.{byte_at, slice}
use Rattle.bencode.specs.Letters.{letter_d, letter_e, letter_l}
use Rattle.bencode.specs.Loop.{LoopStep, next, done, repeat_from, item_step}
use Rattle.bencode.specs.Fault.{fault, code_of, offset_of, Walk}
use Rattle.bencode.specs.Strings.{string_at}
use Rattle.bencode.specs.Scalar.{scalar_at}
use Rattle.bencode.specs.Depth.{largest_depth}
use Rattle.bencode.specs.Key.{key_fault}
use Rattle.bencode.specs.declared.fault.Fault.{Fault}
use Rattle.bencode.specs.declared.fault.Cause.{Cause}

-- goes on after a value, or ends with its fault
abbrev pub onward : {X : Type 0} → Walk → X → LoopStep X Walk
onward (Ok end) x = next end x
onward (Err f) x = done (Err f)

-- a step of a list: its end, or one value
abbrev pub list_step : (ℕ → Walk) → List ℕ → ℕ → Unit {0} → LoopStep (Unit {0}) Walk
list_step value s = item_step s (λ end x. Ok end) (λ at x. onward (value at) x)

-- the offset after the list whose values start at an offset, where `value` walks one
unfoldable pub list_from : (ℕ → Walk) → List ℕ → ℕ → Walk
list_from value s at = repeat_from s (list_step value s) (Err (fault Cause.Syntax at)) at tt

-- goes on after the value of a key, or ends with the key's fault if it has one: a key is judged before its value
abbrev pub keyed : Option Cause → ℕ → Walk → List (List ℕ) → LoopStep (List (List ℕ)) Walk
keyed None at value keys = onward value keys
keyed (Some c) at value keys = done (Err (fault c at))

-- one entry of a dictionary, whose key is a string, after the earlier keys
abbrev pub entry_step : Profile → (ℕ → Walk) → List ℕ → ℕ → List (List ℕ) → Result Text Fault → LoopStep (List (List ℕ)) Walk
entry_step p value s at keys (Ok t) = keyed (key_fault p keys (slice s t.start t.end)) at (value t.end) (slice s t.start t.end ∷ keys)
entry_step p value s at keys (Err f) = done (Err f)

-- a step of a dictionary: its end, or one entry
abbrev pub dictionary_step : Profile → (ℕ → Walk) → List ℕ → ℕ → List (List ℕ) → LoopStep (List (List ℕ)) Walk
dictionary_step p value s at keys = cond (eqb (byte_at s at) letter_e) (done (Ok (at + 1))) (entry_step p value s at keys (string_at s at))

-- the offset after the dictionary whose entries go on at an offset, after the earlier keys
unfoldable pub dictionary_from : Profile → (ℕ → Walk) → List ℕ → ℕ → List (List ℕ) → Walk
dictionary_from p value s at keys = repeat_from s (dictionary_step p value s) (Err (fault Cause.Syntax at)) at keys

-- the value at an offset by its first byte, given what a list there and a dictionary there come to
abbrev pub by_first : List ℕ → ℕ → Walk → Walk → Walk
by_first s at list dictionary =
    cond (eqb (byte_at s at) letter_l) list
    (cond (eqb (byte_at s at) letter_d) dictionary
    (scalar_at s at))

-- the offset after the value at an offset, with so many levels left for lists and dictionaries
unfoldable pub value_at : Profile → ℕ → List ℕ → ℕ → Walk
value_at p zero s at = by_first s at (Err (fault Cause.Depth at)) (Err (fault Cause.Depth at))
value_at p (suc levels) s at =
    by_first s at
    (list_from (λ to. value_at p levels s to) s (at + 1))
    (dictionary_from p (λ to. value_at p levels s to) s (at + 1) [])

-- the offset after the list whose values start at an offset
abbrev pub list_at : Profile → ℕ → List ℕ → ℕ → Walk
list_at p levels s at = list_from (value_at p levels s) s at

-- the offset after the dictionary whose entries start at an offset
abbrev pub dictionary_at : Profile → ℕ → List ℕ → ℕ → Walk
dictionary_at p levels s at = dictionary_from p (value_at p levels s) s at []

-- the end of a payload, which is the end of its value: no byte follows
abbrev pub whole : List ℕ → Walk → Walk
whole s (Ok end) = cond (eqb end (length s)) (Ok end) (Err (fault Cause.Trailing end))
whole s (Err f) = Err f

-- what walking a payload finds
unfoldable pub payload_at : Profile → List ℕ → Walk
payload_at p s = whole s (value_at p largest_depth s 0)

-- the code of a payload, and the offset of its fault, as document 01 numbers them
unfoldable pub payload_code : Profile → List ℕ → ℕ
payload_code p s = code_of (payload_at p s)

unfoldable pub payload_offset : Profile → List ℕ → ℕ
payload_offset p s = offset_of (payload_at p s)
