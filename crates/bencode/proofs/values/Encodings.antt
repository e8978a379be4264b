-- The encoding of a list's or a dictionary's rest, one value or entry at a time.
-- Assumes nothing.
use Prim.Native.Nat.{ℕ}
use mathlib.Core.Path.{◌≡◌, ap, ◌∙◌}
use mathlib.Core.List.{List, [], ◌∷◌, ◌++◌, append_assoc}
use Rattle.bencode.specs.Value.{Value, Values, value, Entries, entry, encode_string, encode, encode_all, encode_entries}

pub values_text : (v : Value) (vs : Values) → encode_all (value v vs) ++ (101 ∷ []) ≡ encode v ++ (encode_all vs ++ (101 ∷ []))
unfolding encode
values_text v vs = append_assoc (encode v) (encode_all vs) (101 ∷ [])

pub entries_text : (key : List ℕ) (v : Value) (es : Entries) → encode_entries (entry key v es) ++ (101 ∷ []) ≡ encode_string key ++ (encode v ++ (encode_entries es ++ (101 ∷ [])))
unfolding encode
entries_text key v es = append_assoc (encode_string key) (encode v ++ encode_entries es) (101 ∷ []) ∙ ap (λ (l : List ℕ). encode_string key ++ l) (append_assoc (encode v) (encode_entries es) (101 ∷ []))
