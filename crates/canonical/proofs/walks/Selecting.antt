-- The next entry to write is the first of the sorted entries past the last one written.
-- Assumes nothing.
use Prim.Native.Nat.{ℕ}
use mathlib.Core.Path.{◌≡◌, refl, sym, ap, subst, ◌∙◌}
use mathlib.Core.Bool.{Bool, true, false, cond}
use mathlib.Core.List.{List, []}
use Rattle.bencode.specs.declared.profile.Profile.{Profile}
use Rattle.octets.specs.Bytes.{same, less}
use Rattle.bencode.specs.Value.{Value, Entries, no_entry, entry, Found, found, missing, lookup, AllEntries, WellFormed}
use Rattle.octets.proofs.sequences.Order.{clash, same_eq, same_refl, less_trans, less_total}
use Rattle.canonical.specs.Order.{sorted, sorted_entries}
use Rattle.canonical.specs.SortWalk.{Bound, nothing, up_to, is_past}
use Rattle.canonical.proofs.values.Inserts.{Above, Rising, more_differs}
use Rattle.canonical.proofs.values.Maps.{own, one_map}
use Rattle.canonical.proofs.values.SameLaws.{sorted_found, lookup_sorted, sorted_rises}

-- ---- the next entry of a list of entries
-- an entry, or none
pub data Next : Type 0 where
  none : Next
  next : List ℕ → Value → Next

-- the better of the best so far and one more entry
abbrev pub better : Next → List ℕ → Value → Next
better none key v = next key v
better (next k w) key v = cond (less key k) (next key v) (next k w)

-- the entry with the least key past a bound, after the best so far
unfoldable pub least : Bound → Next → Entries → Next
least b best no_entry = best
least b best (entry key v es) = least b (cond (is_past b key) (better best key v) best) es

-- the entries past a bound
unfoldable pub past : Bound → Entries → Entries
past b no_entry = no_entry
past b (entry key v es) = cond (is_past b key) (entry key v (past b es)) (past b es)

-- the sorted entries past a bound: none where no entry is found; else the one found, and those past its key
abbrev pub Follows : Entries → Bound → Next → Type 0
Follows es b none = past b (sorted_entries es) ≡ no_entry
Follows es b (next key v) = past b (sorted_entries es) ≡ entry key (sorted v) (past (up_to key) (sorted_entries es))

-- where nothing has been written, every entry is past the bound
pub past_nothing : (es : Entries) → past nothing es ≡ es
unfolding past
past_nothing no_entry = refl
past_nothing (entry k v es) = ap (entry k v) (past_nothing es)

-- ---- what the entry that is found has to be
-- the least among entries past a bound: it is one of them, and no key below it is
abbrev IsLeast : Bound → Entries → Next → Type 0
IsLeast b es none = (j : List ℕ) → is_past b j ≡ true → lookup j es ≡ missing
IsLeast b es (next k v) = (is_past b k ≡ true) × (lookup k es ≡ found v) × ((j : List ℕ) → is_past b j ≡ true → less j k ≡ true → lookup j es ≡ missing)

-- ---- from left to right is as from right to left
abbrev combine : Next → Next → Next
combine none r = r
combine (next k v) none = next k v
combine (next k v) (next j w) = cond (less j k) (next j w) (next k v)

least_right : Bound → Entries → Next
least_right b no_entry = none
least_right b (entry k v es) = cond (is_past b k) (combine (next k v) (least_right b es)) (least_right b es)

combine_none : (r : Next) → combine r none ≡ r
combine_none none = refl
combine_none (next k v) = refl

-- not below one that is not below another
not_less : (i k j : List ℕ) → less k i ≡ false → less j k ≡ false → less j i ≡ false
not_less i k j a b = go (less j i) refl (less k j) refl
  where
    go : (t : Bool) → less j i ≡ t → (u : Bool) → less k j ≡ u → t ≡ false
    go false p u q = refl
    go true p true q = clash (less k i) (less_trans k j i q p) a
    go true p false q = clash (less k i) (ap (λ (l : List ℕ). less l i) (less_total k j q b) ∙ p) a

combine_assoc : (i : List ℕ) (u : Value) (k : List ℕ) (v : Value) (r : Next) → combine (combine (next i u) (next k v)) r ≡ combine (next i u) (combine (next k v) r)
combine_assoc i u k v none = combine_none (cond (less k i) (next k v) (next i u))
combine_assoc i u k v (next j w) = go (less k i) refl (less j k) refl
  where
    go : (t : Bool) → less k i ≡ t → (s : Bool) → less j k ≡ s → combine (cond t (next k v) (next i u)) (next j w) ≡ combine (next i u) (cond s (next j w) (next k v))
    go true p true q = rw (q, less_trans j k i q p) refl
    go true p false q = rw (q, p) refl
    go false p true q = refl
    go false p false q = rw (p, not_less i k j p q) refl

combine_in : (r : Next) (k : List ℕ) (v : Value) (s : Next) → combine (better r k v) s ≡ combine r (combine (next k v) s)
combine_in none k v s = refl
combine_in (next i u) k v s = combine_assoc i u k v s

least_right_lem : (b : Bound) (best : Next) (es : Entries) → least b best es ≡ combine best (least_right b es)
unfolding least least_right
least_right_lem b best no_entry = sym (combine_none best)
least_right_lem b best (entry k v es) = go (is_past b k) (λ r. least_right_lem b r es)
  where
    go : (t : Bool) → ((r : Next) → least b r es ≡ combine r (least_right b es)) → least b (cond t (better best k v) best) es ≡ combine best (cond t (combine (next k v) (least_right b es)) (least_right b es))
    go true rec = rec (better best k v) ∙ combine_in best k v (least_right b es)
    go false rec = rec best

-- ---- it is the least
-- a key other than the first is looked up in the rest
passed_over : (j k : List ℕ) (v : Value) (es : Entries) → same k j ≡ false → lookup j (entry k v es) ≡ lookup j es
passed_over j k v es e = rw e refl

-- a key that is past a bound is not one that is not
other_side : (b : Bound) (j k : List ℕ) → is_past b j ≡ true → is_past b k ≡ false → same k j ≡ false
other_side b j k p q = go (same k j) refl
  where
    go : (t : Bool) → same k j ≡ t → t ≡ false
    go true e = clash (is_past b j) p (ap (is_past b) (sym (same_eq k j e)) ∙ q)
    go false e = refl

least_over : (b : Bound) (k : List ℕ) (v : Value) (es : Entries) (r : Next) → is_past b k ≡ false → IsLeast b es r → IsLeast b (entry k v es) r
least_over b k v es none q h = λ j p. passed_over j k v es (other_side b j k p q) ∙ h j p
least_over b k v es (next i w) q h =
    (h.0, passed_over i k v es (other_side b i k h.0 q) ∙ h.1, λ j p l. passed_over j k v es (other_side b j k p q) ∙ h.2 j p l)

least_with : (b : Bound) (k : List ℕ) (v : Value) (es : Entries) (r : Next) → is_past b k ≡ true → IsLeast b es r → IsLeast b (entry k v es) (combine (next k v) r)
least_with b k v es none q h = (q, own k v es, λ j p l. passed_over j k v es (more_differs j k l) ∙ h j p)
least_with b k v es (next j w) q h = go (less j k) refl (less k j) refl
  where
    go : (t : Bool) → less j k ≡ t → (u : Bool) → less k j ≡ u → IsLeast b (entry k v es) (cond t (next j w) (next k v))
    go true l u m =
        (h.0, passed_over j k v es (more_differs j k l) ∙ h.1, λ i p n. passed_over i k v es (more_differs i k (less_trans i j k n l)) ∙ h.2 i p n)
    go false l true m = (q, own k v es, λ i p n. passed_over i k v es (more_differs i k n) ∙ h.2 i p (less_trans i k j n m))
    go false l false m =
        (q, own k v es, λ i p n. passed_over i k v es (more_differs i k n) ∙ h.2 i p (ap (less i) (less_total j k l m) ∙ n))

right_least : (b : Bound) (es : Entries) → IsLeast b es (least_right b es)
unfolding least_right
right_least b no_entry = λ j p. refl
right_least b (entry k v es) = go (is_past b k) refl (right_least b es)
  where
    go : (t : Bool) → is_past b k ≡ t → IsLeast b es (least_right b es) → IsLeast b (entry k v es) (cond t (combine (next k v) (least_right b es)) (least_right b es))
    go true p rec = least_with b k v es (least_right b es) p rec
    go false p rec = least_over b k v es (least_right b es) p rec

pub least_is : (b : Bound) (es : Entries) → IsLeast b es (least b none es)
least_is b es = subst (λ (r : Next). IsLeast b es r) (sym (least_right_lem b none es)) (right_least b es)

-- ---- the entries past a bound
lookup_past : (b : Bound) (key : List ℕ) (es : Entries) → lookup key (past b es) ≡ cond (is_past b key) (lookup key es) missing
unfolding past
lookup_past b key no_entry = go (is_past b key)
  where
    go : (t : Bool) → missing ≡ cond t missing missing
    go true = refl
    go false = refl
lookup_past b key (entry k v es) = go (is_past b k) refl (same k key) refl (is_past b key) refl (lookup_past b key es)
  where
    go : (t : Bool) → is_past b k ≡ t → (u : Bool) → same k key ≡ u → (w : Bool) → is_past b key ≡ w → lookup key (past b es) ≡ cond (is_past b key) (lookup key es) missing
        → lookup key (cond t (entry k v (past b es)) (past b es)) ≡ cond w (cond u (found v) (lookup key es)) missing
    go true p true q true r rec = rw q refl
    go true p true q false r rec = clash (is_past b k) p (ap (is_past b) (same_eq k key q) ∙ r)
    go true p false q true r rec = rw q (rec ∙ rw r refl)
    go true p false q false r rec = rw q (rec ∙ rw r refl)
    go false p true q true r rec = clash (is_past b key) r (ap (is_past b) (sym (same_eq k key q)) ∙ p)
    go false p true q false r rec = rec ∙ rw r refl
    go false p false q true r rec = rec ∙ rw r refl
    go false p false q false r rec = rec ∙ rw r refl

above_past : (k : List ℕ) (b : Bound) (es : Entries) → Above k es → Above k (past b es)
unfolding past
above_past k b no_entry a = tt
above_past k b (entry j w es) a = go (is_past b j) (above_past k b es a.1)
  where
    go : (t : Bool) → Above k (past b es) → Above k (cond t (entry j w (past b es)) (past b es))
    go true rec = (a.0, rec)
    go false rec = rec

rising_past : (b : Bound) (es : Entries) → Rising es → Rising (past b es)
unfolding past
rising_past b no_entry r = tt
rising_past b (entry j w es) r = go (is_past b j) (rising_past b es r.1)
  where
    go : (t : Bool) → Rising (past b es) → Rising (cond t (entry j w (past b es)) (past b es))
    go true rec = (above_past j b es r.0, rec)
    go false rec = rec

past_above : (k : List ℕ) (es : Entries) → Above k (past (up_to k) es)
unfolding past
past_above k no_entry = tt
past_above k (entry j w es) = go (less k j) refl (past_above k es)
  where
    go : (t : Bool) → less k j ≡ t → Above k (past (up_to k) es) → Above k (cond t (entry j w (past (up_to k) es)) (past (up_to k) es))
    go true p rec = (p, rec)
    go false p rec = rec

-- what is past a key that is past a bound is past the bound
past_trans : (b : Bound) (k key : List ℕ) → is_past b k ≡ true → less k key ≡ true → is_past b key ≡ true
past_trans nothing k key p q = refl
past_trans (up_to j) k key p q = less_trans j k key p q

-- ---- the next entry
module _ (es : Entries) (b : Bound) (rises : Rising (sorted_entries es)) where
  none_follows : IsLeast b es none → Follows es b none
  none_follows h = one_map (past b (sorted_entries es)) no_entry (rising_past b (sorted_entries es) rises) tt (λ key. lookup_past b key (sorted_entries es) ∙ go key (is_past b key) refl)
    where
      go : (key : List ℕ) (t : Bool) → is_past b key ≡ t → cond t (lookup key (sorted_entries es)) missing ≡ missing
      go key true p = lookup_sorted key es ∙ ap sorted_found (h key p)
      go key false p = refl

  next_follows : (k : List ℕ) (v : Value) → IsLeast b es (next k v) → Follows es b (next k v)
  next_follows k v h =
      one_map (past b (sorted_entries es)) (entry k (sorted v) (past (up_to k) (sorted_entries es))) (rising_past b (sorted_entries es) rises) (past_above k (sorted_entries es), rising_past (up_to k) (sorted_entries es) rises)
      (λ key. lookup_past b key (sorted_entries es) ∙ go key (is_past b key) refl (same k key) refl (less k key) refl (less key k) refl
      ∙ sym (ap (λ (f : Found). cond (same k key) (found (sorted v)) f) (lookup_past (up_to k) key (sorted_entries es))))
    where
      go : (key : List ℕ) (t : Bool) → is_past b key ≡ t → (u : Bool) → same k key ≡ u → (l : Bool) → less k key ≡ l → (g : Bool) → less key k ≡ g
          → cond t (lookup key (sorted_entries es)) missing ≡ cond u (found (sorted v)) (cond l (lookup key (sorted_entries es)) missing)
      go key true p true q l r g m = lookup_sorted key es ∙ ap sorted_found (ap (λ (x : List ℕ). lookup x es) (sym (same_eq k key q)) ∙ h.1)
      go key false p true q l r g m = clash (is_past b k) h.0 (ap (is_past b) (same_eq k key q) ∙ p)
      go key true p false q true r g m = refl
      go key false p false q true r g m = clash (is_past b key) (past_trans b k key h.0 r) p
      go key true p false q false r true m = lookup_sorted key es ∙ ap sorted_found (h.2 key p m)
      go key true p false q false r false m = clash (same k key) (ap (λ (x : List ℕ). same k x) (sym (less_total k key r m)) ∙ same_refl k) q
      go key false p false q false r g m = refl

  follows : (r : Next) → IsLeast b es r → Follows es b r
  follows none h = none_follows h
  follows (next k v) h = next_follows k v h

-- the next entry is the first of the sorted ones past those written
pub selects_next : (levels : ℕ) (es : Entries) (b : Bound) → AllEntries Profile.Loose (WellFormed Profile.Loose levels) [] es → Follows es b (least b none es)
selects_next levels es b a = follows es b (sorted_rises (WellFormed Profile.Loose levels) [] es a) (least b none es) (least_is b es)
