-- Sorting against meaning: values that come out alike mean the same, and values that mean the same come out alike.
-- Assumes nothing.
use Prim.Native.Nat.{ℕ, zero, suc}
use mathlib.Core.Path.{◌≡◌, refl, sym, ap, ap₂, subst, ◌∙◌}
use mathlib.Core.Bool.{Bool, true, false, cond}
use mathlib.Core.List.{List, [], ◌∷◌}
use native.Mathlib.Omega.{arith}
use lib.IntN.{ℤ}
use Rattle.bencode.specs.declared.profile.Profile.{Profile}
use Rattle.octets.specs.Bytes.{same}
use Rattle.bencode.specs.Key.{is_used}
use Rattle.bencode.specs.Value.{Value, integer, string, list, dictionary, Values, no_value, value, Entries, no_entry, entry, Found, found, missing, lookup, All, AllEntries, WellFormed}
use Rattle.octets.proofs.sequences.Order.{clash, same_eq}
use Rattle.bencode.proofs.walking.KeyOrder.{used_head, used_tail}
use Rattle.canonical.specs.Order.{sorted, sorted_all, sorted_entries}
use Rattle.canonical.specs.Same.{SameValue, same_integer, same_string, same_list, same_dictionary, SameValues, none, more, SameFound, neither, both}
use Rattle.canonical.proofs.values.KeyFacts.{loose_unused}
use Rattle.canonical.proofs.values.Inserts.{found_missing, lookup_insert, Rising, rising_insert}
use Rattle.canonical.proofs.values.Maps.{one_map}

-- ---- what a key finds after sorting
abbrev pub sorted_found : Found → Found
sorted_found (found v) = found (sorted v)
sorted_found missing = missing

pub lookup_sorted : (key : List ℕ) (es : Entries) → lookup key (sorted_entries es) ≡ sorted_found (lookup key es)
unfolding sorted
lookup_sorted key no_entry = refl
lookup_sorted key (entry k v es) = lookup_insert key k (sorted v) (sorted_entries es) ∙ go (same k key) (lookup_sorted key es)
  where
    go : (t : Bool) → lookup key (sorted_entries es) ≡ sorted_found (lookup key es) → cond t (found (sorted v)) (lookup key (sorted_entries es)) ≡ sorted_found (cond t (found v) (lookup key es))
    go true rec = refl
    go false rec = rec

-- ---- what comes out alike means the same
other : {P : Type 0} (x y : Value) → x ≡ y → (x ≡ y → ◌≡◌ {A = ℕ} 0 1) → P
other x y e f = absurd (omega (arith, f e))

list_inj : (vs ws : Values) → list vs ≡ list ws → vs ≡ ws
list_inj vs ws e = cc

dictionary_inj : (es fs : Entries) → dictionary es ≡ dictionary fs → es ≡ fs
dictionary_inj es fs e = cc

found_same : (v : Value) → ((w : Value) → sorted v ≡ sorted w → SameValue v w) → (f : Found) → found (sorted v) ≡ sorted_found f → SameFound (found v) f
found_same v rec (found w) e = both (rec w (cc))
found_same v rec missing e = found_missing (sorted v) e

missing_same : (f : Found) → missing ≡ sorted_found f → SameFound missing f
missing_same (found w) e = found_missing (sorted w) (sym e)
missing_same missing e = neither

by_key : (k key : List ℕ) (v : Value) (x f : Found) → (found (sorted v) ≡ sorted_found f → SameFound (found v) f) → (sorted_found x ≡ sorted_found f → SameFound x f)
    → sorted_found (cond (same k key) (found v) x) ≡ sorted_found f → SameFound (cond (same k key) (found v) x) f
by_key k key v x f here rest e = go (same k key) e
  where
    go : (t : Bool) → sorted_found (cond t (found v) x) ≡ sorted_found f → SameFound (cond t (found v) x) f
    go true e = here e
    go false e = rest e

value_inj : (v w : Value) (vs ws : Values) → value v vs ≡ value w ws → (v ≡ w) × (vs ≡ ws)
value_inj v w vs ws e = (cc, cc)

mutual
  unfolding sorted

  pub alike_same : (v w : Value) → sorted v ≡ sorted w → SameValue v w
  alike_same (integer z) (integer y) e = let i : z ≡ y = cc in subst (λ (x : ℤ). SameValue (integer z) (integer x)) i (same_integer z)
  alike_same (integer z) (string t) e = let n : ◌≡◌ {A = ℕ} 0 1 = cc in absurd (omega arith)
  alike_same (integer z) (list ws) e = let n : ◌≡◌ {A = ℕ} 0 1 = cc in absurd (omega arith)
  alike_same (integer z) (dictionary fs) e = let n : ◌≡◌ {A = ℕ} 0 1 = cc in absurd (omega arith)
  alike_same (string t) (integer y) e = let n : ◌≡◌ {A = ℕ} 0 1 = cc in absurd (omega arith)
  alike_same (string t) (string u) e = let i : t ≡ u = cc in subst (λ (x : List ℕ). SameValue (string t) (string x)) i (same_string t)
  alike_same (string t) (list ws) e = let n : ◌≡◌ {A = ℕ} 0 1 = cc in absurd (omega arith)
  alike_same (string t) (dictionary fs) e = let n : ◌≡◌ {A = ℕ} 0 1 = cc in absurd (omega arith)
  alike_same (list vs) (integer y) e = let n : ◌≡◌ {A = ℕ} 0 1 = cc in absurd (omega arith)
  alike_same (list vs) (string u) e = let n : ◌≡◌ {A = ℕ} 0 1 = cc in absurd (omega arith)
  alike_same (list vs) (list ws) e = same_list (alike_all vs ws (list_inj (sorted_all vs) (sorted_all ws) e))
  alike_same (list vs) (dictionary fs) e = let n : ◌≡◌ {A = ℕ} 0 1 = cc in absurd (omega arith)
  alike_same (dictionary es) (integer y) e = let n : ◌≡◌ {A = ℕ} 0 1 = cc in absurd (omega arith)
  alike_same (dictionary es) (string u) e = let n : ◌≡◌ {A = ℕ} 0 1 = cc in absurd (omega arith)
  alike_same (dictionary es) (list ws) e = let n : ◌≡◌ {A = ℕ} 0 1 = cc in absurd (omega arith)
  alike_same (dictionary es) (dictionary fs) e =
      same_dictionary (λ key. alike_found es key (lookup key fs) (sym (lookup_sorted key es) ∙ ap (lookup key) (dictionary_inj (sorted_entries es) (sorted_entries fs) e) ∙ lookup_sorted key fs))

  alike_all : (vs ws : Values) → sorted_all vs ≡ sorted_all ws → SameValues vs ws
  alike_all no_value no_value e = none
  alike_all no_value (value w ws) e = let n : ◌≡◌ {A = ℕ} 0 1 = cc in absurd (omega arith)
  alike_all (value v vs) no_value e = let n : ◌≡◌ {A = ℕ} 0 1 = cc in absurd (omega arith)
  alike_all (value v vs) (value w ws) e = let i = value_inj (sorted v) (sorted w) (sorted_all vs) (sorted_all ws) e in more (alike_same v w i.0) (alike_all vs ws i.1)

  alike_found : (es : Entries) (key : List ℕ) (f : Found) → sorted_found (lookup key es) ≡ sorted_found f → SameFound (lookup key es) f
  alike_found no_entry key f e = missing_same f e
  alike_found (entry k v es) key f e = by_key k key v (lookup key es) f (λ q. found_same v (λ w r. alike_same v w r) f q) (λ q. alike_found es key f q) e

-- ---- what means the same comes out alike
module _ (formed : Value → Type 0) where
  -- a value that is found is well formed
  abbrev pub FoundFormed : Found → Type 0
  FoundFormed (found v) = formed v
  FoundFormed missing = Unit {0}

  pub lookup_formed : (p : Profile) (keys : List (List ℕ)) (es : Entries) (key : List ℕ) → AllEntries p formed keys es → FoundFormed (lookup key es)
  lookup_formed p keys no_entry key a = tt
  lookup_formed p keys (entry k v es) key a = go (same k key) (lookup_formed p (k ∷ keys) es key a.2)
    where
      go : (t : Bool) → FoundFormed (lookup key es) → FoundFormed (cond t (found v) (lookup key es))
      go true rec = a.1
      go false rec = rec

  -- an earlier key is not found among the later ones
  pub used_missing : (k : List ℕ) (keys : List (List ℕ)) (es : Entries) → is_used k keys ≡ true → AllEntries Profile.Loose formed keys es → lookup k es ≡ missing
  used_missing k keys no_entry u a = refl
  used_missing k keys (entry j w es) u a = go (same j k) refl (used_missing k (j ∷ keys) es (used_tail k j keys u) a.2)
    where
      go : (t : Bool) → same j k ≡ t → lookup k es ≡ missing → cond t (found w) (lookup k es) ≡ missing
      go true p rec = clash (is_used k keys) u (ap (λ (l : List ℕ). is_used l keys) (sym (same_eq j k p)) ∙ loose_unused keys j a.0)
      go false p rec = rec

  -- sorted keys rise
  pub sorted_rises : (keys : List (List ℕ)) (es : Entries) → AllEntries Profile.Loose formed keys es → Rising (sorted_entries es)
  unfolding sorted
  sorted_rises keys no_entry a = tt
  sorted_rises keys (entry k v es) a =
      rising_insert k (sorted v) (sorted_entries es)
      (lookup_sorted k es ∙ ap sorted_found (used_missing k (k ∷ keys) es (used_head k keys) a.2))
      (sorted_rises (k ∷ keys) es a.2)

  module _ (alike : (v w : Value) → formed v → formed w → SameValue v w → sorted v ≡ sorted w) where
    all_alike : (vs ws : Values) → All formed vs → All formed ws → SameValues vs ws → sorted_all vs ≡ sorted_all ws
    unfolding sorted
    all_alike vs ws a b none = refl
    all_alike vs ws a b (more {v = v} {w = w} {vs = us} {ws = xs} h t) = ap₂ (λ (x : Value) (y : Values). value x y) (alike v w a.0 b.0 h) (all_alike us xs a.1 b.1 t)

    found_alike : (x y : Found) → FoundFormed x → FoundFormed y → SameFound x y → sorted_found x ≡ sorted_found y
    found_alike x y a b neither = refl
    found_alike x y a b (both {v = v} {w = w} h) = ap found (alike v w a b h)

    entries_alike : (es fs : Entries) → AllEntries Profile.Loose formed [] es → AllEntries Profile.Loose formed [] fs → ((key : List ℕ) → SameFound (lookup key es) (lookup key fs)) → sorted_entries es ≡ sorted_entries fs
    entries_alike es fs a b h =
        one_map (sorted_entries es) (sorted_entries fs) (sorted_rises [] es a) (sorted_rises [] fs b)
        (λ key. lookup_sorted key es
        ∙ found_alike (lookup key es) (lookup key fs) (lookup_formed Profile.Loose [] es key a) (lookup_formed Profile.Loose [] fs key b) (h key)
        ∙ sym (lookup_sorted key fs))

pub same_alike : (levels : ℕ) (v w : Value) → WellFormed Profile.Loose levels v → WellFormed Profile.Loose levels w → SameValue v w → sorted v ≡ sorted w
unfolding sorted
same_alike zero v w a b (same_integer z) = refl
same_alike zero v w a b (same_string t) = refl
same_alike zero v w a b (same_list h) = absurd a
same_alike zero v w a b (same_dictionary h) = absurd a
same_alike (suc levels) v w a b (same_integer z) = refl
same_alike (suc levels) v w a b (same_string t) = refl
same_alike (suc levels) v w a b (same_list {vs = vs} {ws = ws} h) = ap list (all_alike (λ u. WellFormed Profile.Loose levels u) (λ x y c d s. same_alike levels x y c d s) vs ws a b h)
same_alike (suc levels) v w a b (same_dictionary {es = es} {fs = fs} h) = ap dictionary (entries_alike (λ u. WellFormed Profile.Loose levels u) (λ x y c d s. same_alike levels x y c d s) es fs a b h)
