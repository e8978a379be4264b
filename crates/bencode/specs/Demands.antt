-- Statements of payloads as a whole. Each is a type; its proof stands in proofs/ under the same name in lower case.
-- Assumes nothing.
use Rattle.std.specs.Prelude.{ℕ, ◌+◌, ◌-◌, ◌≡◌, ◌↔◌, Bool, true, length, Ok, Err, Result, Some, None, Option}
use mathlib.Core.List.{List, [], ◌∷◌, ◌++◌, Memᴰ}
use Rattle.bencode.specs.declared.fault.Fault.{Fault}
use Rattle.bencode.specs.declared.field.Field.{Field}
use Rattle.bencode.specs.declared.integers.Number.{Number}
use Rattle.bencode.specs.declared.profile.Profile.{Profile}
use Rattle.bencode.specs.declared.strings.Text.{Text}
use Rattle.octets.specs.Bytes.{byte_at, slice, less, Begins}
use Rattle.bencode.specs.Letters.{letter_e}
use Rattle.bencode.specs.Depth.{largest_depth}
use Rattle.bencode.specs.Strings.{string_at, text_of}
use Rattle.bencode.specs.Integers.{integer_at, number_of}
use Rattle.bencode.specs.Utf8.{Utf8Text, is_text}
use Rattle.bencode.specs.Key.{key_fault, is_fault_code}
use Rattle.bencode.specs.Walk.{payload_at, payload_code}
use Rattle.bencode.specs.Loop.{LoopStep}
use Rattle.bencode.specs.Flat.{Levels, turn, loop_at}
use Rattle.bencode.specs.Skip.{skip_value, skip_rest}
use Rattle.bencode.specs.Entry.{entry_at}
use Rattle.bencode.specs.Item.{item_at}
use Rattle.bencode.specs.Field.{field_at, field_of}
use Rattle.bencode.specs.Value.{Value, integer, string, list, dictionary, Values, Entries, encode_string, encode, encode_all, encode_entries, All, AllEntries, WellFormed, Found, found, missing, lookup, lookup_at}
use Rattle.bencode.specs.Fault.{Walk, cause_code, fault_number}
use Rattle.bencode.specs.declared.fault.Cause.{Cause}

-- demand 2, for payloads: the walk accepts exactly the encodings of well-formed values
abbrev pub AcceptsExactly : Type 0
AcceptsExactly = (p : Profile) (s : List ℕ) → (payload_at p s ≡ Ok (length s)) ↔ ((v : Value) × WellFormed p largest_depth v × (s ≡ encode v))

-- a payload is the encoding of one value only
abbrev pub OneValue : Type 0
OneValue = (v w : Value) → encode v ≡ encode w → v ≡ w

-- request 03, of any recogniser: it takes exactly the joined UTF-8 encodings of characters
abbrev pub KeyTextFor : (List ℕ → Bool) → Type 0
KeyTextFor recognise = (key : List ℕ) → (recognise key ≡ true) ↔ Utf8Text key

-- request 03, of ours
abbrev pub KeyText : Type 0
KeyText = KeyTextFor is_text

-- the loose profile allows a key exactly where it is text and comes once
abbrev pub KeysOnce : Type 0
KeysOnce = (keys : List (List ℕ)) (key : List ℕ) → (key_fault Profile.Loose keys key ≡ None) ↔ (Utf8Text key × (Memᴰ key keys → ⊥))

-- the strict profile allows a key exactly where it is text and every earlier one is below it
abbrev pub KeysRise : Type 0
KeysRise = (keys : List (List ℕ)) (key : List ℕ) → (key_fault Profile.Strict keys key ≡ None) ↔ (Utf8Text key × ((k : List ℕ) → Memᴰ k keys → less k key ≡ true))

-- request 03: 10 is given to a key exactly where it is no text, whatever the profile and the earlier keys
abbrev pub TenForNoText : Type 0
TenForNoText = (p : Profile) (keys : List (List ℕ)) (key : List ℕ) → (fault_number (key_fault p keys key) ≡ 10) ↔ (Utf8Text key → ⊥)

-- 8 is given to a key exactly where it is a text that is among the earlier ones, whatever the profile
abbrev pub EightForRepeated : Type 0
EightForRepeated = (p : Profile) (keys : List (List ℕ)) (key : List ℕ) → (fault_number (key_fault p keys key) ≡ 8) ↔ (Utf8Text key × Memᴰ key keys)

-- request 06: 11 is given to a key exactly where the profile is strict and it is a text that is not among the earlier ones and not
-- above all of them; so it comes after 10 and 8
abbrev pub ElevenForUnsorted : Type 0
ElevenForUnsorted = (p : Profile) (keys : List (List ℕ)) (key : List ℕ)
    → (fault_number (key_fault p keys key) ≡ 11) ↔ ((p ≡ Profile.Strict) × Utf8Text key × (Memᴰ key keys → ⊥) × (((k : List ℕ) → Memᴰ k keys → less k key ≡ true) → ⊥))

-- no two causes have one number, and none has 0: so the three above say for which cause each key is refused
abbrev pub FaultNumbersTell : Type 0
FaultNumbersTell = (c d : Option Cause) → fault_number c ≡ fault_number d → c ≡ d

-- a payload's fault has a code of its profile, which is never 0
abbrev pub FaultsCoded : Type 0
FaultsCoded = (p : Profile) (s : List ℕ) (f : Fault) → payload_at p s ≡ Err f → is_fault_code p (cause_code f.cause) ≡ true

-- request 06: but for 11 the strict profile finds what the loose one finds
abbrev pub StrictIsLoose : Type 0
StrictIsLoose = (s : List ℕ) → (payload_code Profile.Strict s ≡ 11 → ⊥) → payload_at Profile.Strict s ≡ payload_at Profile.Loose s

-- request 09, of any turn of a walk by one loop with a row of levels, and of what the loop answers where the turns do not end in as
-- many as there are bytes and one: the loop finds in every payload what the nested walk finds, the end or the fault with its cause
-- and offset, in either profile
abbrev pub SamePayloadWith : Walk → (Profile → List ℕ → ℕ → Levels → LoopStep Levels Walk) → Type 0
SamePayloadWith endless step = (p : Profile) (s : List ℕ) → loop_at step endless p s ≡ payload_at p s

-- whatever the loop answers there: so the turns end. That the function `flat::payload` finds the same, its promise says
abbrev pub SamePayloadFor : (Profile → List ℕ → ℕ → Levels → LoopStep Levels Walk) → Type 0
SamePayloadFor step = (endless : Walk) → SamePayloadWith endless step

-- request 09, of our turn
abbrev pub SamePayload : Type 0
SamePayload = SamePayloadFor turn

-- ---- looking into a payload where a value's encoding stands
-- what reading an integer answers there: its value, or a fault where it is none
abbrev pub IntegerRead : Value → ℕ → Result Number Fault → Type 0
IntegerRead (integer z) end n = n ≡ Ok (number_of z end)
IntegerRead (string text) end n = (f : Fault) × (n ≡ Err f)
IntegerRead (list vs) end n = (f : Fault) × (n ≡ Err f)
IntegerRead (dictionary es) end n = (f : Fault) × (n ≡ Err f)

abbrev pub ReadsInteger : Type 0
ReadsInteger = (p : Profile) (levels : ℕ) (v : Value) (s : List ℕ) (at end : ℕ) → WellFormed p levels v → Begins s at (encode v) end → IntegerRead v end (integer_at s at)

-- what reading a string answers there: its text, which is the end of its encoding, or a fault where it is none
abbrev pub StringRead : List ℕ → Value → ℕ → Result Text Fault → Type 0
StringRead s (string text) end t = (t ≡ Ok (text_of (end - length text) end)) × (slice s (end - length text) end ≡ text)
StringRead s (integer z) end t = (f : Fault) × (t ≡ Err f)
StringRead s (list vs) end t = (f : Fault) × (t ≡ Err f)
StringRead s (dictionary es) end t = (f : Fault) × (t ≡ Err f)

abbrev pub ReadsString : Type 0
ReadsString = (v : Value) (s : List ℕ) (at end : ℕ) → Begins s at (encode v) end → StringRead s v end (string_at s at)

-- a well-formed value is skipped to its end
abbrev pub SkipsValue : Type 0
SkipsValue = (p : Profile) (levels : ℕ) (v : Value) (s : List ℕ) (at end : ℕ) → WellFormed p levels v → Begins s at (encode v) end → skip_value s at ≡ end

-- the rest of a list is skipped to the list's end
abbrev pub SkipsItems : Type 0
SkipsItems = (p : Profile) (levels : ℕ) (vs : Values) (s : List ℕ) (at end : ℕ) → All (WellFormed p levels) vs → Begins s at (encode_all vs ++ (letter_e ∷ [])) end → skip_rest s at ≡ end

-- the rest of a dictionary, after the keys before it, is skipped to the dictionary's end
abbrev pub SkipsEntries : Type 0
SkipsEntries = (p : Profile) (levels : ℕ) (es : Entries) (keys : List (List ℕ)) (s : List ℕ) (at end : ℕ) → AllEntries p (WellFormed p levels) keys es → Begins s at (encode_entries es ++ (letter_e ∷ [])) end → skip_rest s at ≡ end

-- an item of a list is found up to its end
abbrev pub FindsItem : Type 0
FindsItem = (p : Profile) (levels : ℕ) (v : Value) (s : List ℕ) (at end : ℕ) → WellFormed p levels v → Begins s at (encode v) end → item_at s at ≡ Some end

-- at the list's `e` there is no item
abbrev pub EndsItems : Type 0
EndsItems = (s : List ℕ) (at : ℕ) → byte_at s at ≡ letter_e → item_at s at ≡ None

-- what a search finds of a key, in a dictionary that ends at `end`: a value whose encoding stands at the offset, with the
-- rest of the dictionary after it; or none
abbrev pub Located : Profile → ℕ → List ℕ → ℕ → Found → Option ℕ → Type 0
Located p levels s end (found v) (Some at) = WellFormed p levels v × Begins s at (encode v) (at + length (encode v)) × (skip_rest s (at + length (encode v)) ≡ end)
Located p levels s end (found v) None = ⊥
Located p levels s end missing (Some at) = ⊥
Located p levels s end missing None = Unit {0}

-- a key is found in a dictionary exactly where its value stands
abbrev pub FindsEntry : Type 0
FindsEntry = (p : Profile) (levels : ℕ) (es : Entries) (keys : List (List ℕ)) (s : List ℕ) (at end : ℕ) (key : List ℕ) → AllEntries p (WellFormed p levels) keys es → Begins s at (encode_entries es ++ (letter_e ∷ [])) end → (entry_at s key at ≡ lookup_at key es at) × Located p levels s end (lookup key es) (entry_at s key at)

-- what a field says of a value whose encoding stands at an offset: an integer, and where it ends; where a string's text is,
-- which is the end of its encoding; where a list's items or a dictionary's entries stand, each well formed
abbrev pub Shows : Profile → List ℕ → ℕ → Value → Option Field → Type 0
Shows p s at (integer z) f = f ≡ Some (Field.Integer z (at + length (encode (integer z))))
Shows p s at (string text) f = (f ≡ Some (Field.Text (at + length (encode_string text) - length text) (at + length (encode_string text)))) × (slice s (at + length (encode_string text) - length text) (at + length (encode_string text)) ≡ text)
Shows p s at (list vs) f = (f ≡ Some (Field.List (at + 1))) × (levels : ℕ) × All (WellFormed p levels) vs × Begins s (at + 1) (encode_all vs ++ (letter_e ∷ [])) (at + length (encode (list vs)))
Shows p s at (dictionary es) f = (f ≡ Some (Field.Dictionary (at + 1))) × (levels : ℕ) × AllEntries p (WellFormed p levels) [] es × Begins s (at + 1) (encode_entries es ++ (letter_e ∷ [])) (at + length (encode (dictionary es)))

abbrev pub ShowsValue : Type 0
ShowsValue = (p : Profile) (levels : ℕ) (v : Value) (s : List ℕ) (at end : ℕ) → WellFormed p levels v → Begins s at (encode v) end → Shows p s at v (field_at s at)

-- what a field says of a key that was looked up in a dictionary that ends at `end`: the value at its offset, with the rest of
-- the dictionary after it; or that there is none
abbrev pub ShowsFound : Profile → List ℕ → ℕ → Found → Option ℕ → Option Field → Type 0
ShowsFound p s end (found v) (Some at) f = Shows p s at v f × (skip_rest s (at + length (encode v)) ≡ end)
ShowsFound p s end (found v) None f = ⊥
ShowsFound p s end missing (Some at) f = ⊥
ShowsFound p s end missing None f = f ≡ None

-- the field of a key shows what the look-up finds
abbrev pub FindsField : Type 0
FindsField = (p : Profile) (levels : ℕ) (es : Entries) (s : List ℕ) (at end : ℕ) (key : List ℕ) → AllEntries p (WellFormed p levels) [] es → Begins s at (encode_entries es ++ (letter_e ∷ [])) end → ShowsFound p s end (lookup key es) (lookup_at key es at) (field_of s key at)
