-- To be believed. The grammar: bencoded values, how each is written, and which are well formed (BEP 3, and document 01, 'The
-- frame'; what a key may be also by document 02, request 03).
-- Assumes nothing.
use Rattle.std.specs.Prelude.{ℕ, zero, suc, ◌+◌, ◌≡◌, cond, List, [], ◌∷◌, ◌++◌, ℤ, pos, negsuc, length, None, Option, Some}
use Rattle.bencode.specs.declared.profile.Profile.{Profile}
use Rattle.octets.specs.Bytes.{same}
use Rattle.bencode.specs.Letters.{letter_d, letter_e, letter_i, letter_l, colon, minus}
use Rattle.octets.specs.Numerals.{decimal}
use Rattle.bencode.specs.Integers.{InRange}
use Rattle.bencode.specs.Key.{key_fault}

mutual
  -- an integer, a string, a list of values, or a dictionary of keys and values
  pub data Value : Type 0 where
    integer : ℤ → Value
    string : List ℕ → Value
    list : Values → Value
    dictionary : Entries → Value

  pub data Values : Type 0 where
    no_value : Values
    value : Value → Values → Values

  pub data Entries : Type 0 where
    no_entry : Entries
    entry : List ℕ → Value → Entries → Entries

-- the sign of an integer: `-` where it is negative
abbrev pub sign : ℤ → List ℕ
sign (pos n) = []
sign (negsuc n) = minus ∷ []

-- an integer's digits, after its sign
abbrev pub signed_decimal : ℤ → List ℕ
signed_decimal (pos n) = decimal n
signed_decimal (negsuc n) = minus ∷ decimal (suc n)

-- a string: its length, a colon and its bytes
abbrev pub encode_string : List ℕ → List ℕ
encode_string text = decimal (length text) ++ (colon ∷ text)

unfoldable mutual
  -- how a value is written
  pub encode : Value → List ℕ
  encode (integer z) = letter_i ∷ (signed_decimal z ++ (letter_e ∷ []))
  encode (string text) = encode_string text
  encode (list vs) = letter_l ∷ (encode_all vs ++ (letter_e ∷ []))
  encode (dictionary es) = letter_d ∷ (encode_entries es ++ (letter_e ∷ []))

  pub encode_all : Values → List ℕ
  encode_all no_value = []
  encode_all (value v vs) = encode v ++ encode_all vs

  pub encode_entries : Entries → List ℕ
  encode_entries no_entry = []
  encode_entries (entry key v es) = encode_string key ++ (encode v ++ encode_entries es)

-- every value of a list is well formed
abbrev pub All : (Value → Type 0) → Values → Type 0
All formed no_value = Unit {0}
All formed (value v vs) = formed v × All formed vs

-- every value of a dictionary is well formed, and every key may stand after the earlier ones
abbrev pub AllEntries : Profile → (Value → Type 0) → List (List ℕ) → Entries → Type 0
AllEntries p formed keys no_entry = Unit {0}
AllEntries p formed keys (entry key v es) = (key_fault p keys key ≡ None) × formed v × AllEntries p formed (key ∷ keys) es

-- a value whose integers are in the range of 64 bits, whose keys are allowed and that is at most so many levels deep
abbrev pub WellFormed : Profile → ℕ → Value → Type 0
WellFormed p zero (integer z) = InRange z
WellFormed p zero (string text) = Unit {0}
WellFormed p zero (list vs) = ⊥
WellFormed p zero (dictionary es) = ⊥
WellFormed p (suc levels) (integer z) = InRange z
WellFormed p (suc levels) (string text) = Unit {0}
WellFormed p (suc levels) (list vs) = All (λ v. WellFormed p levels v) vs
WellFormed p (suc levels) (dictionary es) = AllEntries p (λ v. WellFormed p levels v) [] es

-- a value, or none
pub data Found : Type 0 where
  found : Value → Found
  missing : Found

-- the value of a key in a dictionary
abbrev pub lookup : List ℕ → Entries → Found
lookup key no_entry = missing
lookup key (entry k v es) = let rest = lookup key es in cond (same k key) (found v) rest

-- where that value stands in the dictionary whose entries start at an offset
abbrev pub lookup_at : List ℕ → Entries → ℕ → Option ℕ
lookup_at key no_entry at = None
lookup_at key (entry k v es) at =
    let rest = lookup_at key es (at + length (encode_string k) + length (encode v)) in
    cond (same k key) (Some (at + length (encode_string k))) rest

-- what a value has under a key: nothing where it is no dictionary, or is not there itself
abbrev pub under : List ℕ → Found → Found
under key (found (integer z)) = missing
under key (found (string text)) = missing
under key (found (list vs)) = missing
under key (found (dictionary es)) = lookup key es
under key missing = missing

-- what is made of an integer that was found; `other` for any other value, and for none
abbrev pub found_integer : {A : Type 0} → A → (ℤ → A) → Found → A
found_integer other make (found (integer z)) = make z
found_integer other make (found (string text)) = other
found_integer other make (found (list vs)) = other
found_integer other make (found (dictionary es)) = other
found_integer other make missing = other
