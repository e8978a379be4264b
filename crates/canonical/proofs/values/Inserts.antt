-- An entry put in its place: what the keys then find, and that they rise.
-- Assumes nothing.
use Prim.Native.Nat.{ℕ}
use mathlib.Core.Path.{◌≡◌, refl, sym, ap, ◌∙◌}
use mathlib.Core.Bool.{Bool, true, false, cond}
use mathlib.Core.List.{List}
use native.Mathlib.Omega.{arith}
use Rattle.octets.specs.Bytes.{same, less}
use Rattle.bencode.specs.Value.{Value, Entries, no_entry, entry, Found, found, missing, lookup}
use Rattle.octets.proofs.sequences.Order.{clash, same_eq, same_refl, less_irrefl, less_trans, less_total}
use Rattle.canonical.specs.Order.{insert}

-- a value is found, and none is
pub found_missing : {P : Type 0} (v : Value) → found v ≡ missing → P
found_missing v e = let z : ◌≡◌ {A = ℕ} 0 1 = cc in absurd (omega arith)

-- a key above another is not the same
pub more_differs : (j k : List ℕ) → less j k ≡ true → same k j ≡ false
more_differs j k h = go (same k j) refl
  where
    go : (t : Bool) → same k j ≡ t → t ≡ false
    go true p = clash (less j j) (ap (λ (l : List ℕ). less j l) (sym (same_eq k j p)) ∙ h) (less_irrefl j)
    go false p = refl

-- what a key finds after an entry was put in
pub lookup_insert : (key k : List ℕ) (v : Value) (es : Entries) → lookup key (insert k v es) ≡ cond (same k key) (found v) (lookup key es)
unfolding insert
lookup_insert key k v no_entry = refl
lookup_insert key k v (entry j w es) = go (less j k) refl (lookup_insert key k v es)
  where
    apart : (t u : Bool) → same j key ≡ t → same k key ≡ u → less j k ≡ true → cond t (found w) (cond u (found v) (lookup key es)) ≡ cond u (found v) (cond t (found w) (lookup key es))
    apart true true p q h = clash (less k k) (sym (ap (λ (l : List ℕ). less l k) (same_eq j key p ∙ sym (same_eq k key q))) ∙ h) (less_irrefl k)
    apart true false p q h = refl
    apart false u p q h = refl

    go : (t : Bool) → less j k ≡ t → lookup key (insert k v es) ≡ cond (same k key) (found v) (lookup key es)
        → lookup key (cond t (entry j w (insert k v es)) (entry k v (entry j w es))) ≡ cond (same k key) (found v) (cond (same j key) (found w) (lookup key es))
    go true h rec = ap (λ (f : Found). cond (same j key) (found w) f) rec ∙ apart (same j key) (same k key) refl refl h
    go false h rec = refl

-- ---- keys that rise
-- every key is above one
abbrev pub Above : List ℕ → Entries → Type 0
Above k no_entry = Unit {0}
Above k (entry j w es) = (less k j ≡ true) × Above k es

-- every key is above those before it
abbrev pub Rising : Entries → Type 0
Rising no_entry = Unit {0}
Rising (entry k v es) = Above k es × Rising es

-- what is below a key that all are above, all are above too
pub above_trans : (k j : List ℕ) (es : Entries) → less k j ≡ true → Above j es → Above k es
above_trans k j no_entry h a = tt
above_trans k j (entry i w es) h a = (less_trans k j i h a.0, above_trans k j es h a.1)

-- what all keys are above is not found
pub above_missing : (k : List ℕ) (es : Entries) → Above k es → lookup k es ≡ missing
above_missing k no_entry a = refl
above_missing k (entry j w es) a = rw (more_differs k j a.0, above_missing k es a.1) refl

-- not found among entries: neither the first, nor among the others
pub missing_rest : (k j : List ℕ) (w : Value) (es : Entries) → lookup k (entry j w es) ≡ missing → (same j k ≡ false) × (lookup k es ≡ missing)
missing_rest k j w es e = go (same j k) refl e
  where
    go : (t : Bool) → same j k ≡ t → cond t (found w) (lookup k es) ≡ missing → (same j k ≡ false) × (lookup k es ≡ missing)
    go true p e = found_missing w e
    go false p e = (p, e)

above_insert : (j k : List ℕ) (v : Value) (es : Entries) → less j k ≡ true → Above j es → Above j (insert k v es)
unfolding insert
above_insert j k v no_entry h a = (h, tt)
above_insert j k v (entry i w es) h a = go (less i k) (above_insert j k v es h a.1)
  where
    go : (t : Bool) → Above j (insert k v es) → Above j (cond t (entry i w (insert k v es)) (entry k v (entry i w es)))
    go true rec = (a.0, rec)
    go false rec = (h, a)

-- the other way round, where two keys differ
turned : (j k : List ℕ) → same j k ≡ false → less j k ≡ false → less k j ≡ true
turned j k d h = go (less k j) refl
  where
    go : (t : Bool) → less k j ≡ t → t ≡ true
    go true p = refl
    go false p = clash (same j k) (ap (λ (l : List ℕ). same j l) (sym (less_total j k h p)) ∙ same_refl j) d

-- a new key put in its place keeps the keys rising
pub rising_insert : (k : List ℕ) (v : Value) (es : Entries) → lookup k es ≡ missing → Rising es → Rising (insert k v es)
unfolding insert
rising_insert k v no_entry m r = (tt, tt)
rising_insert k v (entry j w es) m r = go (less j k) refl (rising_insert k v es (missing_rest k j w es m).1 r.1)
  where
    go : (t : Bool) → less j k ≡ t → Rising (insert k v es) → Rising (cond t (entry j w (insert k v es)) (entry k v (entry j w es)))
    go true h rec = (above_insert j k v es h r.0, rec)
    go false h rec = let g = turned j k (missing_rest k j w es m).0 h in ((g, above_trans k j es g r.0), r)

-- ---- something that holds of every entry
abbrev pub Each : (List ℕ → Value → Type 0) → Entries → Type 0
Each ok no_entry = Unit {0}
Each ok (entry k v es) = ok k v × Each ok es

pub each_insert : (ok : List ℕ → Value → Type 0) (k : List ℕ) (v : Value) (es : Entries) → ok k v → Each ok es → Each ok (insert k v es)
unfolding insert
each_insert ok k v no_entry h a = (h, tt)
each_insert ok k v (entry j w es) h a = go (less j k) (each_insert ok k v es h a.1)
  where
    go : (t : Bool) → Each ok (insert k v es) → Each ok (cond t (entry j w (insert k v es)) (entry k v (entry j w es)))
    go true rec = (a.0, rec)
    go false rec = (h, a)
