-- Looking into a payload where a value's encoding stands: integers, strings, items and entries are found as they were written.
-- Assumes nothing.
use Prim.Native.Nat.{ℕ, zero, suc, ◌+◌, ◌-◌}
use mathlib.Core.Path.{◌≡◌, refl, sym, ap, subst, ◌∙◌}
use mathlib.Core.Bool.{Bool, true, false, cond}
use mathlib.Core.List.{List, [], ◌∷◌, ◌++◌, append-nil}
use native.Mathlib.Omega.{arith}
use lib.IntN.{ℤ}
use lib.ListN.{length}
use Rattle.bencode.specs.declared.fault.Fault.{Fault}
use Rattle.octets.specs.Bytes.{byte_at, slice, same, Begins}
use Rattle.bencode.specs.Fault.{fault}
use Rattle.bencode.specs.Strings.{string_at, text_of}
use Rattle.bencode.specs.Integers.{InRange, integer_at, number_of}
use Rattle.bencode.specs.Walk.{list_from, dictionary_from, value_at}
use Rattle.bencode.specs.Skip.{skip_value, skip_rest}
use Rattle.bencode.specs.Entry.{entry_at}
use Rattle.bencode.specs.Value.{Value, integer, string, list, dictionary, Values, no_entry, entry, Entries, encode_string, encode, encode_all, encode_entries, found, missing, lookup, lookup_at}
use Rattle.bencode.specs.Demands.{ReadsInteger, ReadsString, SkipsValue, SkipsItems, SkipsEntries, FindsItem, EndsItems, Located, FindsEntry}
use Rattle.bencode.proofs.walking.WalkLaws.{value_ends}
use Rattle.bencode.proofs.lookup.SkipLaws.{value_skips, list_skips, dictionary_skips}
use Rattle.bencode.proofs.lookup.EntryLaws.{find_none, find_here, find_more}
use Rattle.bencode.proofs.lookup.ItemLaws.{item_last, item_value}
use Rattle.octets.proofs.sequences.BeginsLaws.{begins_left, begins_right, begins_head}
use Rattle.bencode.proofs.values.Encodings.{entries_text}
use Rattle.bencode.proofs.values.FirstBytes.{FirstByte, first_byte, no_end, no_string}
use Rattle.bencode.proofs.scalars.IntegerLaws.{integer_other}
use Rattle.bencode.proofs.values.ScalarReads.{string_reads, integer_reads}
use Rattle.bencode.proofs.values.Complete.{value_no_e, value_reads, list_reads, dictionary_reads}
use Rattle.std.specs.Prelude.{Ok, Err, Option, Some}
use Rattle.bencode.specs.declared.fault.Cause.{Cause}

-- the first byte of a value, with nothing after it
pub starts : (v : Value) (s : List ℕ) (at end : ℕ) → Begins s at (encode v) end → FirstByte v (byte_at s at)
starts v s at end b = first_byte s v at end [] (subst (λ (l : List ℕ). Begins s at l end) (sym (append-nil (encode v))) b)

-- no value begins with `e`
pub value_first : (s : List ℕ) (at end : ℕ) (v : Value) → Begins s at (encode v) end → byte_at s at ≡ 101 → ⊥
value_first s at end v b q = no_end s v (byte_at s at) (starts v s at end b) q

-- the values of a list, and the entries of a dictionary
pub items_begin : (s : List ℕ) (at end : ℕ) (vs : Values) → Begins s at (encode (list vs)) end → Begins s (at + 1) (encode_all vs ++ (101 ∷ [])) end
unfolding encode
items_begin s at end vs b = begins_right s at end (108 ∷ []) (encode_all vs ++ (101 ∷ [])) b

pub entries_begin : (s : List ℕ) (at end : ℕ) (es : Entries) → Begins s at (encode (dictionary es)) end → Begins s (at + 1) (encode_entries es ++ (101 ∷ [])) end
unfolding encode
entries_begin s at end es b = begins_right s at end (100 ∷ []) (encode_entries es ++ (101 ∷ [])) b

no_integer_lem : (s : List ℕ) (at : ℕ) → (byte_at s at ≡ 105 → ⊥) → (f : Fault) × (integer_at s at ≡ Err f)
no_integer_lem s at h = (fault Cause.Syntax at, sym (integer_other s at h))

integer_stands : (s : List ℕ) (at end : ℕ) (z : ℤ) → InRange z → Begins s at (encode (integer z)) end → integer_at s at ≡ Ok (number_of z end)
unfolding encode
integer_stands s at end z fits b = integer_reads s at end z fits b

pub reads_integer : ReadsInteger
reads_integer p zero (integer z) s at end formed b = integer_stands s at end z formed b
reads_integer p (suc levels) (integer z) s at end formed b = integer_stands s at end z formed b
reads_integer p levels (string text) s at end formed b = no_integer_lem s at (λ q. omega (arith, starts (string text) s at end b))
reads_integer p levels (list vs) s at end formed b = no_integer_lem s at (λ q. omega (arith, starts (list vs) s at end b))
reads_integer p levels (dictionary es) s at end formed b = no_integer_lem s at (λ q. omega (arith, starts (dictionary es) s at end b))

string_stands : (s : List ℕ) (at end : ℕ) (text : List ℕ) → Begins s at (encode (string text)) end → (string_at s at ≡ Ok (text_of (end - length text) end)) × (slice s (end - length text) end ≡ text)
unfolding encode
string_stands s at end text b =
    let r = string_reads s at end text b in
    let start : r.0 ≡ end - length text = omega (arith, r.3) in
    (r.1 ∙ ap (λ (k : ℕ). Ok (text_of k end)) start, ap (λ (k : ℕ). slice s k end) (sym start) ∙ r.2)

pub reads_string : ReadsString
reads_string (string text) s at end b = string_stands s at end text b
reads_string (integer z) s at end b = no_string s at (omega (arith, starts (integer z) s at end b))
reads_string (list vs) s at end b = no_string s at (omega (arith, starts (list vs) s at end b))
reads_string (dictionary es) s at end b = no_string s at (omega (arith, starts (dictionary es) s at end b))

pub skips_value : SkipsValue
skips_value p levels v s at end formed b = value_skips s p levels at end (value_reads s p levels v at end formed b) 0

pub skips_items : SkipsItems
unfolding list_from
skips_items p levels vs s at end formed b =
    list_skips s (value_at p levels s) (value_skips s p levels) (fault Cause.Syntax at) (suc (length s - at)) at end (list_reads s p levels (value_reads s p levels) vs at end formed b) 0

pub skips_entries : SkipsEntries
unfolding dictionary_from
skips_entries p levels es keys s at end formed b =
    dictionary_skips s (value_at p levels s) (value_skips s p levels) (fault Cause.Syntax at) p (suc (length s - at)) at keys end (dictionary_reads s p levels (value_reads s p levels) es at end keys formed b) 0

pub finds_item : FindsItem
finds_item p levels v s at end formed b =
    let w = value_reads s p levels v at end formed b in
    let past = value_ends p levels s at end w in
    sym (item_value s at (value_no_e s p levels at end w) end (sym (skips_value p levels v s at end formed b)) past.0)

pub ends_items : EndsItems
ends_items s at b = sym (item_last s at b)

pub finds_entry : FindsEntry
unfolding encode
finds_entry p levels no_entry keys s at end key formed b =
    let n = no_string s at (omega (arith, begins_head s at 101 end [] b)) in
    let none = find_none s key at n.0 n.1 in
    (sym none, subst (λ (e : Option ℕ). Located p levels s end missing e) none tt)
finds_entry p levels (entry k v es) keys s at end key formed b =
    let c = subst (λ (l : List ℕ). Begins s at l end) (entries_text k v es) b in
    let m = at + length (encode_string k) in
    let r = string_reads s at m k (begins_left s at end (encode_string k) (encode v ++ (encode_entries es ++ (101 ∷ []))) c) in
    let d = begins_right s at end (encode_string k) (encode v ++ (encode_entries es ++ (101 ∷ []))) c in
    let stands = begins_left s m end (encode v) (encode_entries es ++ (101 ∷ [])) d in
    let after = begins_right s m end (encode v) (encode_entries es ++ (101 ∷ [])) d in
    let rest = finds_entry p levels es (k ∷ keys) s (m + length (encode v)) end key formed.2 after in
    go (same k key) refl r.0 m r.1 (ap (λ (l : List ℕ). same l key) r.2) stands (skips_entries p levels es (k ∷ keys) s (m + length (encode v)) end formed.2 after) refl rest
  where
    go : (t : Bool) → same k key ≡ t → (start m : ℕ) → string_at s at ≡ Ok (text_of start m) → same (slice s start m) key ≡ same k key → Begins s m (encode v) (m + length (encode v)) → skip_rest s (m + length (encode v)) ≡ end → m ≡ at + length (encode_string k) → (entry_at s key (m + length (encode v)) ≡ lookup_at key es (at + length (encode_string k) + length (encode v))) × Located p levels s end (lookup key es) (entry_at s key (m + length (encode v)))
        → (entry_at s key at ≡ cond t (Some (at + length (encode_string k))) (lookup_at key es (at + length (encode_string k) + length (encode v)))) × Located p levels s end (cond t (found v) (lookup key es)) (entry_at s key at)
    go true q start m x i stands skipped is rest =
        let here = find_here s key at start m x (i ∙ q) in
        (sym here ∙ ap (λ (j : ℕ). Some j) is, subst (λ (e : Option ℕ). Located p levels s end (found v) e) here (formed.1, stands, skipped))
    go false q start m x i stands skipped is rest =
        let past : skip_value s m ≡ m + length (encode v) = skips_value p levels v s m (m + length (encode v)) formed.1 stands in
        let more = ap (λ (j : ℕ). entry_at s key j) (sym past) ∙ find_more s key at start m x (i ∙ q) in
        (sym more ∙ rest.0, subst (λ (e : Option ℕ). Located p levels s end (lookup key es) e) more rest.1)
