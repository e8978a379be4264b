-- Sorting keeps the length of every encoding.
-- Assumes nothing.
use Prim.Native.Nat.{ℕ, ◌+◌}
use mathlib.Core.Path.{◌≡◌, refl, ap, ◌∙◌}
use mathlib.Core.Bool.{Bool, true, false, cond}
use mathlib.Core.List.{List, [], ◌∷◌, ◌++◌}
use native.Mathlib.Omega.{arith}
use lib.ListN.{length, length-append}
use Rattle.octets.specs.Bytes.{less}
use Rattle.bencode.specs.Value.{Value, integer, string, list, dictionary, Values, no_value, value, Entries, no_entry, entry, encode_string, encode, encode_all, encode_entries}
use Rattle.canonical.specs.Order.{insert, sorted, sorted_all, sorted_entries}

length_entry : (k : List ℕ) (v : Value) (es : Entries) → length (encode_entries (entry k v es)) ≡ length (encode_string k) + (length (encode v) + length (encode_entries es))
unfolding encode
length_entry k v es = length-append (encode_string k) (encode v ++ encode_entries es) ∙ ap (λ (n : ℕ). length (encode_string k) + n) (length-append (encode v) (encode_entries es))

length_value : (v : Value) (vs : Values) → length (encode_all (value v vs)) ≡ length (encode v) + length (encode_all vs)
unfolding encode
length_value v vs = length-append (encode v) (encode_all vs)

length_list : (vs ws : Values) → length (encode_all vs) ≡ length (encode_all ws) → length (encode (list vs)) ≡ length (encode (list ws))
unfolding encode
length_list vs ws e = ap (λ (n : ℕ). n) (omega (arith, length-append (encode_all vs) (101 ∷ []), length-append (encode_all ws) (101 ∷ [])))

length_dictionary : (es fs : Entries) → length (encode_entries es) ≡ length (encode_entries fs) → length (encode (dictionary es)) ≡ length (encode (dictionary fs))
unfolding encode
length_dictionary es fs e = ap (λ (n : ℕ). n) (omega (arith, length-append (encode_entries es) (101 ∷ []), length-append (encode_entries fs) (101 ∷ [])))

length_insert : (k : List ℕ) (v : Value) (es : Entries) → length (encode_entries (insert k v es)) ≡ length (encode_string k) + (length (encode v) + length (encode_entries es))
unfolding insert
length_insert k v no_entry = length_entry k v no_entry
length_insert k v (entry j w es) = go (less j k) (length_insert k v es)
  where
    go : (t : Bool) → length (encode_entries (insert k v es)) ≡ length (encode_string k) + (length (encode v) + length (encode_entries es))
        → length (encode_entries (cond t (entry j w (insert k v es)) (entry k v (entry j w es)))) ≡ length (encode_string k) + (length (encode v) + length (encode_entries (entry j w es)))
    go true rec = omega (arith, length_entry j w (insert k v es), length_entry j w es, rec)
    go false rec = length_entry k v (entry j w es)

mutual
  unfolding sorted

  pub length_sorted : (v : Value) → length (encode (sorted v)) ≡ length (encode v)
  length_sorted (integer z) = refl
  length_sorted (string t) = refl
  length_sorted (list vs) = length_list (sorted_all vs) vs (length_all vs)
  length_sorted (dictionary es) = length_dictionary (sorted_entries es) es (length_entries es)

  length_all : (vs : Values) → length (encode_all (sorted_all vs)) ≡ length (encode_all vs)
  length_all no_value = refl
  length_all (value v vs) = omega (arith, length_value (sorted v) (sorted_all vs), length_value v vs, length_sorted v, length_all vs)

  length_entries : (es : Entries) → length (encode_entries (sorted_entries es)) ≡ length (encode_entries es)
  length_entries no_entry = refl
  length_entries (entry k v es) = omega (arith, length_insert k (sorted v) (sorted_entries es), length_entry k v es, length_sorted v, length_entries es)
