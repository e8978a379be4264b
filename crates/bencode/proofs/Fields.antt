-- A key's field shows what the look-up finds in the grammar's value.
-- Assumes nothing.
use Rattle.std.specs.Prelude.{Option, Some, None}
use Prim.Native.Nat.{ℕ, zero, suc, ◌+◌}
use mathlib.Core.Path.{◌≡◌, refl, ap, subst, ◌∙◌}
use mathlib.Core.List.{List, [], ◌∷◌, ◌++◌}
use native.Mathlib.Omega.{arith}
use lib.IntN.{ℤ}
use lib.ListN.{length}
use Rattle.bencode.specs.declared.field.Field.{Field}
use Rattle.bencode.specs.declared.profile.Profile.{Profile}
use Rattle.octets.specs.Bytes.{Begins}
use Rattle.bencode.specs.Skip.{skip_rest}
use Rattle.bencode.specs.Entry.{entry_at}
use Rattle.bencode.specs.Field.{number_field, text_field, field_at, entry_field, field_of, if_integer}
use Rattle.bencode.specs.Value.{integer, string, list, dictionary, Entries, encode_string, encode, encode_entries, AllEntries, WellFormed, Found, found, missing, lookup, lookup_at, found_integer}
use Rattle.bencode.specs.Demands.{Located, Shows, ShowsValue, ShowsFound, FindsField}
use Rattle.bencode.proofs.Lookups.{starts, items_begin, entries_begin, reads_integer, reads_string, finds_entry}
use Rattle.bencode.proofs.lookup.FieldLaws.{field_list, field_dictionary, field_integer, field_text}

-- a value stands up to the end of its encoding
begins_exactly : (s : List ℕ) (at : ℕ) (bytes : List ℕ) (end : ℕ) → Begins s at bytes end → Begins s at bytes (at + length bytes)
begins_exactly s at bytes end b = record { rest = b.rest; is = b.is; ends = refl }

text_shown : (p : Profile) (text s : List ℕ) (at end : ℕ) → Begins s at (encode (string text)) end → Shows p s at (string text) (field_at s at)
unfolding encode
text_shown p text s at end b =
    let f = starts (string text) s at end b in
    let r = reads_string (string text) s at (at + length (encode_string text)) (begins_exactly s at (encode_string text) end b) in
    (field_text s at (λ q. omega arith) (λ q. omega arith) (λ q. omega arith) ∙ ap text_field r.0, r.1)

pub shows_value : ShowsValue
shows_value p levels (integer z) s at end formed b =
    field_integer s at (starts (integer z) s at end b) ∙ ap number_field (reads_integer p levels (integer z) s at (at + length (encode (integer z))) formed (begins_exactly s at (encode (integer z)) end b))
shows_value p levels (string text) s at end formed b = text_shown p text s at end b
shows_value p zero (list vs) s at end formed b = absurd formed
shows_value p (suc levels) (list vs) s at end formed b =
    (field_list s at (starts (list vs) s at end b), levels, formed, items_begin s at (at + length (encode (list vs))) vs (begins_exactly s at (encode (list vs)) end b))
shows_value p zero (dictionary es) s at end formed b = absurd formed
shows_value p (suc levels) (dictionary es) s at end formed b =
    (field_dictionary s at (starts (dictionary es) s at end b), levels, formed, entries_begin s at (at + length (encode (dictionary es))) es (begins_exactly s at (encode (dictionary es)) end b))

pub finds_field : FindsField
unfolding field_of
finds_field p levels es s at end key formed b =
    let r = finds_entry p levels es [] s at end key formed b in
    subst (λ (e : Option ℕ). ShowsFound p s end (lookup key es) e (field_of s key at)) r.0 (go (lookup key es) (entry_at s key at) r.1)
  where
    go : (x : Found) (e : Option ℕ) → Located p levels s end x e → ShowsFound p s end x e (entry_field s e)
    go (found v) (Some to) l = (shows_value p levels v s to (to + length (encode v)) l.0 l.1, l.2)
    go (found v) None l = absurd l
    go missing (Some to) l = absurd l
    go missing None l = refl

-- what is made of a key's integer, or of another field, is what is meant by the value that is found
module _ {A : Type 0} (other : A) (make : ℤ → ℕ → A) (meant : ℤ → A) (s : List ℕ) (end : ℕ) (same : (z : ℤ) (to : ℕ) → skip_rest s to ≡ end → make z to ≡ meant z) where
  shows_integer : (p : Profile) (x : Found) (e : Option ℕ) (f : Option Field) → ShowsFound p s end x e f → if_integer other make f ≡ found_integer other meant x
  shows_integer p (found (integer z)) (Some at) f h = rw h.0 (same z (at + length (encode (integer z))) h.1)
  shows_integer p (found (string text)) (Some at) f h = rw h.0.0 refl
  shows_integer p (found (list vs)) (Some at) f h = rw h.0.0 refl
  shows_integer p (found (dictionary es)) (Some at) f h = rw h.0.0 refl
  shows_integer p (found v) None f h = absurd h
  shows_integer p missing (Some at) f h = absurd h
  shows_integer p missing None f h = rw h refl

  pub finds_integer : (p : Profile) (levels : ℕ) (es : Entries) (at : ℕ) (key : List ℕ) → AllEntries p (WellFormed p levels) [] es → Begins s at (encode_entries es ++ (101 ∷ [])) end → if_integer other make (field_of s key at) ≡ found_integer other meant (lookup key es)
  finds_integer p levels es at key formed b = shows_integer p (lookup key es) (lookup_at key es at) (field_of s key at) (finds_field p levels es s at end key formed b)
