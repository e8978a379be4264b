-- Where a well-formed value stands, the sorter's walk comes to its sorted encoding.
-- Assumes nothing.
use Prim.Native.Nat.{ℕ, zero, suc, ◌+◌, ◌≤◌, ◌<◌}
use mathlib.Core.Path.{◌≡◌, refl, sym, ap, ap₂, subst, ◌∙◌}
use mathlib.Core.Bool.{Bool, true, false, cond}
use mathlib.Core.List.{List, [], ◌∷◌, ◌++◌, append_assoc, append-nil}
use native.Mathlib.Omega.{arith}
use borrow.Author.Tests.{eq-eqb, ne_eqb}
use lib.ListN.{length, length-append, length-drop}
use Rattle.std.specs.Prelude.{Option, None, Some}
use Rattle.octets.specs.Bytes.{byte_at, slice, less, Begins}
use Rattle.octets.specs.Numerals.{decimal}
use Rattle.bencode.specs.declared.profile.Profile.{Profile}
use Rattle.bencode.specs.Value.{Value, integer, string, list, dictionary, Values, no_value, value, Entries, no_entry, entry, encode_string, encode, encode_all, encode_entries, All, AllEntries, WellFormed}
use Rattle.octets.proofs.sequences.Order.{less_asym}
use Rattle.octets.proofs.sequences.BeginsLaws.{begins_left, begins_right, begins_head, slice_begins}
use Rattle.bencode.proofs.values.Encodings.{values_text}
use Rattle.bencode.proofs.Lookups.{starts, value_first, items_begin, entries_begin, skips_value}
use Rattle.canonical.specs.declared.select.Pick.{Pick}
use Rattle.canonical.specs.Order.{insert, sorted, sorted_all, sorted_entries}
use Rattle.canonical.specs.SortWalk.{Bound, nothing, up_to, rises_at, least_at, chosen, selected, entries_at, values_from, copied_at, sorted_at, SortsAt}
use Rattle.canonical.proofs.values.Inserts.{Above, Rising}
use Rattle.canonical.proofs.values.Lengths.{length_sorted}
use Rattle.canonical.proofs.walks.Selecting.{Next, none, next, least, past, Follows, past_nothing, selects_next}
use Rattle.canonical.proofs.walks.Standing.{found_rising, Picked, least_picked}

-- ---- how many
count : Entries → ℕ
count no_entry = 0
count (entry k v es) = suc (count es)

none_left : (es : Entries) → count es ≤ 0 → encode_entries es ≡ []
unfolding count encode
none_left no_entry h = refl
none_left (entry k v es) h = absurd (omega arith)

count_insert : (k : List ℕ) (v : Value) (es : Entries) → count (insert k v es) ≡ suc (count es)
unfolding count insert
count_insert k v no_entry = refl
count_insert k v (entry j w es) = go (less j k) (count_insert k v es)
  where
    go : (t : Bool) → count (insert k v es) ≡ suc (count es) → count (cond t (entry j w (insert k v es)) (entry k v (entry j w es))) ≡ suc (suc (count es))
    go true rec = ap suc rec
    go false rec = refl

count_sorted : (es : Entries) → count (sorted_entries es) ≡ count es
unfolding count sorted
count_sorted no_entry = refl
count_sorted (entry k v es) = count_insert k (sorted v) (sorted_entries es) ∙ ap suc (count_sorted es)

count_bytes : (es : Entries) → count es ≤ length (encode_entries es)
unfolding count encode
count_bytes no_entry = omega arith
count_bytes (entry k v es) =
    let h = count_bytes es in
    omega (arith, length-append (encode_string k) (encode v ++ encode_entries es), length-append (decimal (length k)) (58 ∷ k), length-append (encode v) (encode_entries es))

inside_payload : (s x : List ℕ) (at end : ℕ) → Begins s at (x ++ (101 ∷ [])) end → length x ≤ length s
inside_payload s x at end b =
    omega (arith, length-drop at s, ap length b.is ∙ length-append (x ++ (101 ∷ [])) b.rest, length-append x (101 ∷ []))

-- every encoding has a byte
encode_some : (v : Value) → 0 < length (encode v)
unfolding encode
encode_some (integer z) = omega arith
encode_some (string text) = omega (arith, length-append (decimal (length text)) (58 ∷ text))
encode_some (list vs) = omega arith
encode_some (dictionary es) = omega arith

-- ---- a dictionary's entries as the values of a list: each key a string
flat : Entries → Values
flat no_entry = no_value
flat (entry k v es) = value (string k) (value v (flat es))

flat_text : (es : Entries) → encode_all (flat es) ≡ encode_entries es
unfolding flat encode
flat_text no_entry = refl
flat_text (entry k v es) = ap (λ (l : List ℕ). encode_string k ++ (encode v ++ l)) (flat_text es)

string_formed : (levels : ℕ) (k : List ℕ) → WellFormed Profile.Loose levels (string k)
string_formed zero k = tt
string_formed (suc levels) k = tt

flat_formed : (levels : ℕ) (keys : List (List ℕ)) (es : Entries) → AllEntries Profile.Loose (WellFormed Profile.Loose levels) keys es → All (WellFormed Profile.Loose levels) (flat es)
unfolding flat
flat_formed levels keys no_entry a = tt
flat_formed levels keys (entry k v es) a = (string_formed levels k, (a.1, flat_formed levels (k ∷ keys) es a.2))

-- where keys rise, each stays in front of the sorted ones after it
stays_first : (k : List ℕ) (x : Value) (es : Entries) → Above k es → Rising es → insert k x (sorted_entries es) ≡ entry k x (sorted_entries es)
unfolding insert sorted
stays_first k x no_entry a q = refl
stays_first k x (entry j w fs) a q =
    let e = stays_first j (sorted w) fs q.0 q.1 in
    ap (insert k x) e ∙ rw (less_asym k j a.0) refl ∙ sym (ap (entry k x) e)

-- and the entries in their order, each value sorted, are the sorted ones
rising_flat : (es : Entries) → Rising es → sorted_all (flat es) ≡ flat (sorted_entries es)
unfolding flat sorted
rising_flat no_entry r = refl
rising_flat (entry k v es) r = ap (λ (x : Values). value (string k) (value (sorted v) x)) (rising_flat es r.1) ∙ sym (ap flat (stays_first k (sorted v) es r.0 r.1))

-- ---- what is written
module _ (levels : ℕ) (s : List ℕ) (write : ℕ → List ℕ) (writes : (v : Value) (at end : ℕ) → WellFormed Profile.Loose levels v → Begins s at (encode v) end → write at ≡ encode (sorted v)) where
  -- one value, and the others after it
  item_is : (v : Value) (n at end : ℕ) → WellFormed Profile.Loose levels v → Begins s at (encode v) end → values_from write s (suc n) at ≡ encode (sorted v) ++ values_from write s n (at + length (encode v))
  unfolding values_from
  item_is v n at end a h =
      let e = writes v at end a h in
      rw (ne_eqb (byte_at s at) 101 (value_first s at end v h), e, length_sorted v) refl

  items_are : (vs : Values) (n at end : ℕ) → length (encode_all vs) ≤ n → All (WellFormed Profile.Loose levels) vs → Begins s at (encode_all vs ++ (101 ∷ [])) end → values_from write s n at ≡ encode_all (sorted_all vs)
  unfolding sorted encode
  items_are no_value zero at end l a h = unfold values_from in refl
  items_are no_value (suc n) at end l a h = unfold values_from in rw (eq-eqb (byte_at s at) 101 (begins_head s at 101 end [] h)) refl
  items_are (value v vs) zero at end l a h = absurd (omega (arith, length-append (encode v) (encode_all vs), encode_some v))
  items_are (value v vs) (suc n) at end l a h =
      let b = subst (λ (x : List ℕ). Begins s at x end) (values_text v vs) h in
      let c = begins_left s at end (encode v) (encode_all vs ++ (101 ∷ [])) b in
      let d = begins_right s at end (encode v) (encode_all vs ++ (101 ∷ [])) b in
      item_is v n at (at + length (encode v)) a.0 c
      ∙ ap (λ (x : List ℕ). encode (sorted v) ++ x) (items_are vs n (at + length (encode v)) end (omega (arith, length-append (encode v) (encode_all vs), encode_some v)) a.1 d)

  -- an entry that was picked
  entry_is : (k : List ℕ) (v : Value) (at stop : ℕ) → WellFormed Profile.Loose levels v → Begins s at (encode_string k) stop → Begins s stop (encode v) (stop + length (encode v)) → values_from write s 2 at ≡ encode_string k ++ encode (sorted v)
  unfolding sorted encode
  entry_is k v at stop a h c =
      item_is (string k) 1 at stop (string_formed levels k) h
      ∙ ap (λ (to : ℕ). encode_string k ++ values_from write s 1 to) (sym h.ends)
      ∙ ap (λ (x : List ℕ). encode_string k ++ x) (item_is v 0 stop (stop + length (encode v)) a c ∙ unfold values_from in append-nil (encode (sorted v)))

  module _ (es : Entries) (first end : ℕ) (a : AllEntries Profile.Loose (WellFormed Profile.Loose levels) [] es) (h : Begins s first (encode_entries es ++ (101 ∷ [])) end) where
    chosen_is : (b : Bound) (n : ℕ) (e : Option Pick) (r : Next) → Picked levels s e r → Follows es b r → count (past b (sorted_entries es)) ≤ suc n
        → ((c : Bound) → count (past c (sorted_entries es)) ≤ n → selected write s first n c ≡ encode_entries (past c (sorted_entries es)))
        → chosen write s e (λ c. selected write s first n c) ≡ encode_entries (past b (sorted_entries es))
    unfolding Picked count encode
    chosen_is b n None none p f l rec = sym (ap encode_entries f)
    chosen_is b n None (next k v) p f l rec = absurd p
    chosen_is b n (Some o) none p f l rec = absurd p
    chosen_is b n (Some o) (next k v) p f l rec =
        let left : count (past (up_to k) (sorted_entries es)) ≤ n = omega (arith, ap count f) in
        ap₂ (λ (x l : List ℕ). x ++ selected write s first n (up_to l)) (entry_is k v o.at o.end p.3 p.1 p.2) p.0
        ∙ ap (λ (x : List ℕ). (encode_string k ++ encode (sorted v)) ++ x) (rec (up_to k) left)
        ∙ append_assoc (encode_string k) (encode (sorted v)) (encode_entries (past (up_to k) (sorted_entries es)))
        ∙ sym (ap encode_entries f)

    selected_is : (n : ℕ) (b : Bound) → count (past b (sorted_entries es)) ≤ n → selected write s first n b ≡ encode_entries (past b (sorted_entries es))
    unfolding selected Picked
    selected_is zero b l = sym (none_left (past b (sorted_entries es)) l)
    selected_is (suc n) b l =
        chosen_is b n (least_at s b first None) (least b none es) (least_picked levels s end b es [] first None none a h tt) (selects_next levels es b a) l (λ c m. selected_is n c m)

    fits : length (encode_entries es) ≤ length s
    fits = inside_payload s (encode_entries es) first end h

    in_order_is : Rising es → values_from write s (length s) first ≡ encode_entries (sorted_entries es)
    in_order_is r =
        let text = flat_text es in
        items_are (flat es) (length s) first end (omega (arith, ap length text, fits)) (flat_formed levels [] es a) (subst (λ (x : List ℕ). Begins s first (x ++ (101 ∷ [])) end) (sym text) h)
        ∙ ap encode_all (rising_flat es r) ∙ flat_text (sorted_entries es)

    entries_are : entries_at write s first ≡ encode_entries (sorted_entries es)
    unfolding entries_at
    entries_are = go (rises_at s first nothing) refl
      where
        go : (t : Bool) → rises_at s first nothing ≡ t → cond t (values_from write s (length s) first) (selected write s first (length s) nothing) ≡ encode_entries (sorted_entries es)
        go true e = in_order_is (found_rising levels s es first end a h e)
        go false e =
            let all = past_nothing (sorted_entries es) in
            selected_is (length s) nothing (omega (arith, ap count all, count_sorted es, count_bytes es, fits)) ∙ ap encode_entries all

-- ---- values
copied_is : (levels : ℕ) (v : Value) (s : List ℕ) (at end : ℕ) → WellFormed Profile.Loose levels v → Begins s at (encode v) end → copied_at s at ≡ encode v
copied_is levels v s at end formed b = ap (slice s at) (skips_value Profile.Loose levels v s at end formed b) ∙ slice_begins s at end (encode v) b

module _ (levels : ℕ) (s : List ℕ) (at : ℕ) where
  pub at_copied : (byte_at s at ≡ 108 → ⊥) → (byte_at s at ≡ 100 → ⊥) → sorted_at (suc levels) s at ≡ copied_at s at
  unfolding sorted_at
  at_copied l d = rw (ne_eqb (byte_at s at) 108 l, ne_eqb (byte_at s at) 100 d) refl

  pub at_list : byte_at s at ≡ 108 → sorted_at (suc levels) s at ≡ 108 ∷ (values_from (λ to. sorted_at levels s to) s (length s) (at + 1) ++ (101 ∷ []))
  unfolding sorted_at
  at_list e = rw (eq-eqb (byte_at s at) 108 e) refl

  pub at_dictionary : byte_at s at ≡ 100 → sorted_at (suc levels) s at ≡ 100 ∷ (entries_at (λ to. sorted_at levels s to) s (at + 1) ++ (101 ∷ []))
  unfolding sorted_at
  at_dictionary e = rw (ne_eqb (byte_at s at) 108 (λ q. omega arith), eq-eqb (byte_at s at) 100 e) refl

pub sorts_at : SortsAt
unfolding sorted encode
sorts_at zero (integer z) s at end formed b = unfold sorted_at in copied_is zero (integer z) s at end formed b
sorts_at zero (string text) s at end formed b = unfold sorted_at in copied_is zero (string text) s at end formed b
sorts_at zero (list vs) s at end formed b = absurd formed
sorts_at zero (dictionary es) s at end formed b = absurd formed
sorts_at (suc levels) (integer z) s at end formed b =
    let f = starts (integer z) s at end b in
    at_copied levels s at (λ q. omega arith) (λ q. omega arith) ∙ copied_is (suc levels) (integer z) s at end formed b
sorts_at (suc levels) (string text) s at end formed b =
    let f = starts (string text) s at end b in
    at_copied levels s at (λ q. omega arith) (λ q. omega arith) ∙ copied_is (suc levels) (string text) s at end formed b
sorts_at (suc levels) (list vs) s at end formed b =
    let h = items_begin s at end vs b in
    at_list levels s at (starts (list vs) s at end b)
    ∙ ap (λ (l : List ℕ). 108 ∷ (l ++ (101 ∷ []))) (items_are levels s (λ to. sorted_at levels s to) (λ v o e f c. sorts_at levels v s o e f c) vs (length s) (at + 1) end (inside_payload s (encode_all vs) (at + 1) end h) formed h)
sorts_at (suc levels) (dictionary es) s at end formed b =
    let h = entries_begin s at end es b in
    at_dictionary levels s at (starts (dictionary es) s at end b)
    ∙ ap (λ (l : List ℕ). 100 ∷ (l ++ (101 ∷ []))) (entries_are levels s (λ to. sorted_at levels s to) (λ v o e f c. sorts_at levels v s o e f c) es (at + 1) end formed h)
