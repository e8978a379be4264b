-- Sorting against the strict profile: what is sorted is strict, and what is strict is sorted.
-- Assumes nothing.
use Prim.Native.Nat.{ℕ, zero, suc}
use mathlib.Core.Path.{◌≡◌, refl, ap, ap₂, ◌∙◌}
use mathlib.Core.Bool.{true}
use mathlib.Core.List.{List, [], ◌∷◌}
use Rattle.bencode.specs.declared.profile.Profile.{Profile}
use Rattle.octets.specs.Bytes.{less}
use Rattle.bencode.specs.Key.{is_above}
use Rattle.bencode.specs.Value.{Value, integer, string, list, dictionary, Values, no_value, value, Entries, no_entry, entry, All, AllEntries, WellFormed}
use Rattle.octets.proofs.sequences.Order.{less_asym}
use Rattle.canonical.specs.Order.{insert, sorted, sorted_all, sorted_entries}
use Rattle.canonical.proofs.values.KeyFacts.{Alone, loose_alone, strict_above, above_strict, both_true}
use Rattle.canonical.proofs.values.Inserts.{Above, Rising, Each, each_insert}
use Rattle.canonical.proofs.values.SameLaws.{sorted_rises}

-- ---- what is strict is sorted
-- a key below the first stays in front
first_stays : (formed : Value → Type 0) (k : List ℕ) (keys : List (List ℕ)) (v : Value) (es : Entries) → AllEntries Profile.Strict formed (k ∷ keys) es → insert k v es ≡ entry k v es
unfolding insert is_above
first_stays formed k keys v no_entry a = refl
first_stays formed k keys v (entry j w es) a = rw (less_asym k j (both_true (less k j) (is_above j keys) (strict_above (k ∷ keys) j a.0)).0) refl

module _ (formed : Value → Type 0) (stays : (v : Value) → formed v → sorted v ≡ v) where
  all_stay : (vs : Values) → All formed vs → sorted_all vs ≡ vs
  unfolding sorted
  all_stay no_value a = refl
  all_stay (value v vs) a = ap₂ (λ (x : Value) (y : Values). value x y) (stays v a.0) (all_stay vs a.1)

  entries_stay : (keys : List (List ℕ)) (es : Entries) → AllEntries Profile.Strict formed keys es → sorted_entries es ≡ es
  unfolding sorted
  entries_stay keys no_entry a = refl
  entries_stay keys (entry k v es) a =
      ap₂ (λ (x : Value) (y : Entries). insert k x y) (stays v a.1) (entries_stay (k ∷ keys) es a.2)
      ∙ first_stays formed k keys v es a.2

-- sorting leaves a strict value as it is
pub strict_unchanged : (levels : ℕ) (v : Value) → WellFormed Profile.Strict levels v → sorted v ≡ v
unfolding sorted
strict_unchanged zero (integer z) a = refl
strict_unchanged zero (string t) a = refl
strict_unchanged zero (list vs) a = absurd a
strict_unchanged zero (dictionary es) a = absurd a
strict_unchanged (suc levels) (integer z) a = refl
strict_unchanged (suc levels) (string t) a = refl
strict_unchanged (suc levels) (list vs) a = ap list (all_stay (λ v. WellFormed Profile.Strict levels v) (λ v b. strict_unchanged levels v b) vs a)
strict_unchanged (suc levels) (dictionary es) a = ap dictionary (entries_stay (λ v. WellFormed Profile.Strict levels v) (λ v b. strict_unchanged levels v b) [] es a)

-- ---- what is sorted is strict
-- every key is above each of some others
abbrev AboveAll : List (List ℕ) → Entries → Type 0
AboveAll keys no_entry = Unit {0}
AboveAll keys (entry k v es) = (is_above k keys ≡ true) × AboveAll keys es

above_none : (es : Entries) → AboveAll [] es
unfolding is_above
above_none no_entry = tt
above_none (entry k v es) = (refl, above_none es)

above_one_more : (k : List ℕ) (keys : List (List ℕ)) (es : Entries) → Above k es → AboveAll keys es → AboveAll (k ∷ keys) es
unfolding is_above
above_one_more k keys no_entry a b = tt
above_one_more k keys (entry j w es) a b = (rw (a.0, b.0) refl, above_one_more k keys es a.1 b.1)

-- an entry whose key may stand alone and whose value is well formed
abbrev Sound : (Value → Type 0) → List ℕ → Value → Type 0
Sound formed k v = Alone k × formed v

rising_strict : (formed : Value → Type 0) (keys : List (List ℕ)) (es : Entries) → AboveAll keys es → Rising es → Each (Sound formed) es → AllEntries Profile.Strict formed keys es
rising_strict formed keys no_entry a r s = tt
rising_strict formed keys (entry k v es) a r s =
    (above_strict keys k s.0.0 a.0, s.0.1, rising_strict formed (k ∷ keys) es (above_one_more k keys es r.0 a.1) r.1 s.1)

module _ (loose strict : Value → Type 0) (becomes : (v : Value) → loose v → strict (sorted v)) where
  all_become : (vs : Values) → All loose vs → All strict (sorted_all vs)
  unfolding sorted
  all_become no_value a = tt
  all_become (value v vs) a = (becomes v a.0, all_become vs a.1)

  each_sound : (keys : List (List ℕ)) (es : Entries) → AllEntries Profile.Loose loose keys es → Each (Sound strict) (sorted_entries es)
  unfolding sorted
  each_sound keys no_entry a = tt
  each_sound keys (entry k v es) a = each_insert (Sound strict) k (sorted v) (sorted_entries es) (loose_alone keys k a.0, becomes v a.1) (each_sound (k ∷ keys) es a.2)

  entries_become : (es : Entries) → AllEntries Profile.Loose loose [] es → AllEntries Profile.Strict strict [] (sorted_entries es)
  entries_become es a = rising_strict strict [] (sorted_entries es) (above_none (sorted_entries es)) (sorted_rises loose [] es a) (each_sound [] es a)

pub sorted_strict : (levels : ℕ) (v : Value) → WellFormed Profile.Loose levels v → WellFormed Profile.Strict levels (sorted v)
unfolding sorted
sorted_strict zero (integer z) a = a
sorted_strict zero (string t) a = tt
sorted_strict zero (list vs) a = absurd a
sorted_strict zero (dictionary es) a = absurd a
sorted_strict (suc levels) (integer z) a = a
sorted_strict (suc levels) (string t) a = tt
sorted_strict (suc levels) (list vs) a = all_become (λ v. WellFormed Profile.Loose levels v) (λ v. WellFormed Profile.Strict levels v) (λ v b. sorted_strict levels v b) vs a
sorted_strict (suc levels) (dictionary es) a = entries_become (λ v. WellFormed Profile.Loose levels v) (λ v. WellFormed Profile.Strict levels v) (λ v b. sorted_strict levels v b) es a

-- sorting twice changes nothing
pub sorted_twice : (levels : ℕ) (v : Value) → WellFormed Profile.Loose levels v → sorted (sorted v) ≡ sorted v
sorted_twice levels v a = strict_unchanged levels (sorted v) (sorted_strict levels v a)
