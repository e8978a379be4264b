-- Entries whose keys rise are one list for one map.
-- Assumes nothing.
use Prim.Native.Nat.{ℕ}
use mathlib.Core.Path.{◌≡◌, refl, sym, ap, subst, ◌∙◌}
use mathlib.Core.Bool.{Bool, true, false, cond}
use mathlib.Core.List.{List}
use Rattle.octets.specs.Bytes.{same, less}
use Rattle.bencode.specs.Value.{Value, Entries, no_entry, entry, found, missing, lookup}
use Rattle.octets.proofs.sequences.Order.{same_eq, same_refl, less_total}
use Rattle.canonical.proofs.values.Inserts.{found_missing, Above, Rising, above_trans, above_missing}

-- an entry's own key finds its value
pub own : (k : List ℕ) (v : Value) (es : Entries) → lookup k (entry k v es) ≡ found v
own k v es = rw (same_refl k) refl

-- a key below all of them is not found
below_missing : (k j : List ℕ) (w : Value) (fs : Entries) → less k j ≡ true → Above j fs → lookup k (entry j w fs) ≡ missing
below_missing k j w fs h a = above_missing k (entry j w fs) (h, above_trans k j fs h a)

-- the same map has the same first key
first_key : (k j : List ℕ) (v w : Value) (es fs : Entries) → Above k es → Above j fs → ((key : List ℕ) → lookup key (entry k v es) ≡ lookup key (entry j w fs)) → k ≡ j
first_key k j v w es fs a b h = go (less k j) refl (less j k) refl
  where
    go : (t : Bool) → less k j ≡ t → (u : Bool) → less j k ≡ u → k ≡ j
    go true p u q = found_missing v (sym (own k v es) ∙ h k ∙ below_missing k j w fs p b)
    go false p true q = found_missing w (sym (own j w fs) ∙ sym (h j) ∙ below_missing j k v es q a)
    go false p false q = less_total k j p q

found_inj : (v w : Value) → found v ≡ found w → v ≡ w
found_inj v w e = cc

-- after a first entry alike, the others are the same map
rest_same : (k : List ℕ) (v w : Value) (es fs : Entries) → Above k es → Above k fs → ((key : List ℕ) → lookup key (entry k v es) ≡ lookup key (entry k w fs)) → (key : List ℕ) → lookup key es ≡ lookup key fs
rest_same k v w es fs a b h key = go (same k key) refl (h key)
  where
    go : (t : Bool) → same k key ≡ t → cond t (found v) (lookup key es) ≡ cond t (found w) (lookup key fs) → lookup key es ≡ lookup key fs
    go true p e = subst (λ (l : List ℕ). lookup l es ≡ lookup l fs) (same_eq k key p) (above_missing k es a ∙ sym (above_missing k fs b))
    go false p e = e

pub one_map : (es fs : Entries) → Rising es → Rising fs → ((key : List ℕ) → lookup key es ≡ lookup key fs) → es ≡ fs
one_map no_entry no_entry r q h = refl
one_map no_entry (entry k w fs) r q h = found_missing w (sym (own k w fs) ∙ sym (h k))
one_map (entry k v es) no_entry r q h = found_missing v (sym (own k v es) ∙ h k)
one_map (entry k v es) (entry j w fs) r q h =
    let i : k ≡ j = first_key k j v w es fs r.0 q.0 h in
    let b : Above k fs = subst (λ (l : List ℕ). Above l fs) (sym i) q.0 in
    let g : (key : List ℕ) → lookup key (entry k v es) ≡ lookup key (entry k w fs) = λ key. h key ∙ ap (λ (l : List ℕ). lookup key (entry l w fs)) (sym i) in
    let e : v ≡ w = found_inj v w (sym (own k v es) ∙ g k ∙ own k w fs) in
    let t : es ≡ fs = one_map es fs r.1 q.1 (rest_same k v w es fs r.0 b g) in
    ap (λ (l : List ℕ). entry l v es) i ∙ ap (λ (u : Value). entry j u es) e ∙ ap (entry j w) t
