-- The keys of a dictionary, as its walker finds them again, are those that the definition keeps.
-- Assumes nothing.
use Prim.Native.Nat.{ℕ, ◌≤◌, ◌<◌}
use mathlib.Core.Path.{◌≡◌, refl, sym, ap, subst, ◌∙◌}
use mathlib.Core.Bool.{Bool, true, false, cond, ◌||◌}
use mathlib.Core.List.{List, [], ◌∷◌}
use native.Mathlib.Omega.{arith}
use borrow.Author.Tests.{le-leb, lt-leb, lt-ltb, le-ltb}
use lib.Dec.{leb}
use lib.ListN.{length}
use Rattle.bencode.specs.declared.key.Seen.{Seen}
use Rattle.bencode.specs.declared.profile.Profile.{Profile}
use Rattle.bencode.specs.Strings.{string_at, text_of}
use Rattle.octets.specs.Bytes.{slice, same, less}
use Rattle.bencode.specs.Utf8.{is_text}
use Rattle.bencode.specs.Key.{is_used, is_above, order_fault, key_fault}
use Rattle.bencode.specs.Walk.{value_at}
use Rattle.bencode.specs.Skip.{skip_value}
use Rattle.bencode.specs.Entry.{entry_at}
use Rattle.bencode.specs.Marks.{place_of, is_marked, with_mark}
use Rattle.bencode.specs.KeySearch.{found_before, used_at, none_seen, repeated_at, above_at, risen, marked, unsorted, key_at}
use Rattle.bencode.specs.Loop.{Past}
use Rattle.bencode.proofs.walking.Ends.{string_whole_inv}
use Rattle.bencode.proofs.walking.WalkLaws.{value_ends}
use Rattle.octets.proofs.sequences.Order.{clash, same_eq, same_refl, less_irrefl}
use Rattle.bencode.proofs.walking.MarkLaws.{mark_stays, mark_comes}
use Rattle.bencode.proofs.walking.KeyOrder.{Under, above_all, above_unused, not_above, under_above, used_head, used_tail}
use Rattle.bencode.proofs.utf8.TextKeyLaws.{fault_of_text}
use Rattle.bencode.proofs.lookup.SkipLaws.{value_skips}
use Rattle.bencode.proofs.lookup.EntryLaws.{find_here, find_more}
use Rattle.bencode.specs.Fault.{Walk, fault}
use Rattle.bencode.specs.declared.fault.Fault.{Fault}
use Rattle.std.specs.Prelude.{Ok, Some, None, Err}
use Rattle.bencode.specs.declared.fault.Cause.{Cause}

-- the keys of the entries from an offset up to another, the latest first, where `value` walks a value
pub data Earlier (value : ℕ → Walk) (s : List ℕ) (first : ℕ) : ℕ → List (List ℕ) → Type 0 where
  none : Earlier value s first first []
  more : {at start end to : ℕ} {keys : List (List ℕ)} → Earlier value s first at keys → string_at s at ≡ Ok (text_of start end) → value end ≡ Ok to → Earlier value s first to (slice s start end ∷ keys)

-- an entry ends after where it starts
entry_past : (p : Profile) (levels : ℕ) (s : List ℕ) (at start end to : ℕ) → string_at s at ≡ Ok (text_of start end) → value_at p levels s end ≡ Ok to → Past s at to
entry_past p levels s at start end to k v = let w = string_whole_inv s at start end k in omega (arith, value_ends p levels s end to v)

-- a search that has passed the entries up to an offset: it found the key among theirs, or goes on there
abbrev Passed : List ℕ → List ℕ → ℕ → ℕ → Bool → Type 0
Passed s key first at true = (v : ℕ) × (v ≤ at) × (entry_at s key first ≡ Some v)
Passed s key first at false = entry_at s key first ≡ entry_at s key at

module _ (p : Profile) (levels : ℕ) (s : List ℕ) (first : ℕ) (key : List ℕ) where
  find_passed : (at : ℕ) (keys : List (List ℕ)) → Earlier (value_at p levels s) s first at keys → Passed s key first at (is_used key keys)
  unfolding is_used
  find_passed at keys none = refl
  find_passed at keys (more {at = k} {start = start} {end = end} {keys = ks} c x v) = go (is_used key ks) (find_passed k ks c) (same (slice s start end) key) refl
    where
      skipped : skip_value s end ≡ at
      skipped = value_skips s p levels end at v 0

      past : (k < end) × (end < at)
      past = let w = string_whole_inv s k start end x in omega (arith, value_ends p levels s end at v)

      go : (u : Bool) → Passed s key first k u → (t : Bool) → same (slice s start end) key ≡ t → Passed s key first at (t || u)
      go true (j, l, e) true q = (j, omega (arith, past), e)
      go true (j, l, e) false q = (j, omega (arith, past), e)
      go false e true q = (end, omega (arith, past), e ∙ sym (find_here s key k start end x q))
      go false e false q = e ∙ sym (find_more s key k start end x q) ∙ ap (λ (j : ℕ). entry_at s key j) skipped

-- the search finds the key at an offset itself, unless an earlier one is equal
used_agrees : (p : Profile) (levels : ℕ) (s : List ℕ) (first at : ℕ) (keys : List (List ℕ)) → Earlier (value_at p levels s) s first at keys → (start end : ℕ) → string_at s at ≡ Ok (text_of start end) → used_at s first (slice s start end) end ≡ is_used (slice s start end) keys
unfolding used_at
used_agrees p levels s first at keys c start end x = go (is_used (slice s start end) keys) (find_passed p levels s first (slice s start end) at keys c)
  where
    past : at < end
    past = let w = string_whole_inv s at start end x in omega arith

    go : (t : Bool) → Passed s (slice s start end) first at t → found_before end (entry_at s (slice s start end) first) ≡ t
    go true (v, l, e) = rw (e, lt-ltb v end (omega (arith, past))) refl
    go false e = rw (e, ← find_here s (slice s start end) at start end x (same_refl (slice s start end)), le-ltb end end (omega arith)) refl

-- ---- what a dictionary's walk keeps of its keys
-- the greatest that is kept is one of the keys, and none is above it; or there are no keys
pub data Top (greatest : List ℕ) (keys : List (List ℕ)) : Type 0 where
  empty : keys ≡ [] → Top greatest keys
  top : is_used greatest keys ≡ true → Under greatest keys → Top greatest keys

-- each key has its mark
abbrev AllMarked : ℕ → List (List ℕ) → Type 0
AllMarked marks keys = (key : List ℕ) → is_used key keys ≡ true → is_marked marks (place_of key) ≡ true

pub record Kept (value : ℕ → Walk) (s : List ℕ) (k : Seen) (at : ℕ) (keys : List (List ℕ)) : Type 0 where
  pub earlier : Earlier value s k.first at keys
  pub highest : Top (slice s k.start k.end) keys
  pub ordered : k.start ≤ k.end
  pub within : k.end ≤ length s
  pub all : AllMarked k.marks keys

pub kept_none : (value : ℕ → Walk) (s : List ℕ) (from : ℕ) → Kept value s (none_seen from) from []
unfolding is_used
kept_none value s from = record { earlier = none; highest = empty refl; ordered = omega arith; within = omega arith; all = λ key u. clash false u refl }

marked_more : (marks : ℕ) (key : List ℕ) (keys : List (List ℕ)) → AllMarked marks keys → AllMarked (with_mark marks (place_of key)) (key ∷ keys)
unfolding is_used
marked_more marks key keys all other u = go (same key other) refl u
  where
    go : (t : Bool) → same key other ≡ t → t || is_used other keys ≡ true → is_marked (with_mark marks (place_of key)) (place_of other) ≡ true
    go true q u = subst (λ (k : List ℕ). is_marked (with_mark marks (place_of key)) (place_of k) ≡ true) (same_eq key other q) (mark_comes marks (place_of key))
    go false q u = mark_stays marks (place_of other) (place_of key) (all other u)

earlier_forward : (p : Profile) (levels : ℕ) (s : List ℕ) (first at : ℕ) (keys : List (List ℕ)) → Earlier (value_at p levels s) s first at keys → first ≤ at
earlier_forward p levels s first at keys none = omega arith
earlier_forward p levels s first at keys (more {at = k} {start = start} {end = end} {keys = ks} c x v) = omega (arith, earlier_forward p levels s first k ks c, entry_past p levels s k start end at x v)

module _ (p : Profile) (levels : ℕ) (s : List ℕ) (k : Seen) (at : ℕ) (keys : List (List ℕ)) (kept : Kept (value_at p levels s) s k at keys) where
  above_agrees : (key : List ℕ) → above_at s k at key ≡ is_above key keys
  unfolding above_at is_above
  above_agrees key = by_keys k.first at keys kept.earlier kept.highest
    where
      greatest : List ℕ
      greatest = slice s k.start k.end

      by_top : (keys : List (List ℕ)) → (keys ≡ [] → ⊥) → Top greatest keys → less greatest key ≡ is_above key keys
      by_top keys h (empty e) = absurd (h e)
      by_top keys h (top u v) = go (less greatest key) refl
        where
          go : (t : Bool) → less greatest key ≡ t → t ≡ is_above key keys
          go true q = sym (above_all greatest key keys v q)
          go false q = sym (not_above greatest key keys u q)

      by_keys : (first at : ℕ) (keys : List (List ℕ)) → Earlier (value_at p levels s) s first at keys → Top greatest keys → cond (leb at first) true (less greatest key) ≡ is_above key keys
      by_keys first at keys none t = rw (le-leb first first (omega arith)) refl
      by_keys first at keys (more {at = j} {start = start} {end = end} {keys = ks} c x v) t =
          rw (lt-leb at first (omega (arith, earlier_forward p levels s first j ks c, entry_past p levels s j start end at x v)))
          (by_top (slice s start end ∷ ks) (λ e. let z : ◌≡◌ {A = ℕ} 0 1 = cc in omega arith) t)

  module _ (start end : ℕ) (text : string_at s at ≡ Ok (text_of start end)) where
    abbrev key : List ℕ
    key = slice s start end

    -- a key whose mark is not there is new
    repeated_agrees : repeated_at s k key end ≡ is_used key keys
    unfolding repeated_at
    repeated_agrees = go (is_marked k.marks (place_of key)) refl
      where
        go : (t : Bool) → is_marked k.marks (place_of key) ≡ t → cond t (used_at s k.first key end) false ≡ is_used key keys
        go true m = used_agrees p levels s k.first at keys kept.earlier start end text
        go false m = new (is_used key keys) refl
          where
            new : (u : Bool) → is_used key keys ≡ u → false ≡ u
            new true q = clash (is_marked k.marks (place_of key)) (kept.all key q) m
            new false q = refl

    -- what is kept after a key that is allowed
    kept_above : is_above key keys ≡ true → (to : ℕ) → value_at p levels s end ≡ Ok to → Kept (value_at p levels s) s (risen s k start end) to (key ∷ keys)
    kept_above h to v =
        let w = string_whole_inv s at start end text in
        record {
          earlier = more kept.earlier text v;
          highest = top (used_head key keys) (less_irrefl key, under_above key keys h);
          ordered = w.ordered;
          within = w.within;
          all = marked_more k.marks key keys kept.all;
        }

    kept_below : is_above key keys ≡ false → (to : ℕ) → value_at p levels s end ≡ Ok to → Kept (value_at p levels s) s (marked k key) to (key ∷ keys)
    kept_below h to v =
        record {
          earlier = more kept.earlier text v;
          highest = go keys h kept.highest;
          ordered = kept.ordered;
          within = kept.within;
          all = marked_more k.marks key keys kept.all;
        }
      where
        greatest : List ℕ
        greatest = slice s k.start k.end

        go : (keys : List (List ℕ)) → is_above key keys ≡ false → Top greatest keys → Top greatest (key ∷ keys)
        go keys h (empty e) = clash (is_above key keys) (rw e (unfold is_above in refl)) h
        go keys h (top u v) = top (used_tail greatest key keys u) (under (less greatest key) refl, v)
          where
            under : (t : Bool) → less greatest key ≡ t → t ≡ false
            under true q = clash (is_above key keys) (above_all greatest key keys v q) h
            under false q = refl

    pub key_allowed : is_text key ≡ true → (seen : Seen) → key_at p s k at start end ≡ Ok seen → (key_fault p keys key ≡ None) × ((to : ℕ) → value_at p levels s end ≡ Ok to → Kept (value_at p levels s) s seen to (key ∷ keys))
    unfolding key_at
    key_allowed is seen e =
        let r = go (is_above key keys) refl (is_used key keys) refl p (rw (above_agrees key, repeated_agrees) at e) in
        (fault_of_text p keys key is ∙ r.0, r.1)
      where
        go : (t : Bool) → is_above key keys ≡ t → (u : Bool) → is_used key keys ≡ u → (q : Profile) → cond t (Ok (risen s k start end)) (cond u (Err (fault Cause.RepeatedKey at)) (unsorted q at (marked k key))) ≡ Ok seen
            → (cond u (Some Cause.RepeatedKey) (order_fault q t) ≡ None) × ((to : ℕ) → value_at p levels s end ≡ Ok to → Kept (value_at p levels s) s seen to (key ∷ keys))
        go true h true c q e = clash (is_used key keys) c (above_unused key keys h)
        go true h false c Profile.Loose e = let n : risen s k start end ≡ seen = cc in (refl, λ to v. subst (λ (x : Seen). Kept (value_at p levels s) s x to (key ∷ keys)) n (kept_above h to v))
        go true h false c Profile.Strict e = let n : risen s k start end ≡ seen = cc in (refl, λ to v. subst (λ (x : Seen). Kept (value_at p levels s) s x to (key ∷ keys)) n (kept_above h to v))
        go false h true c q e = let z : ◌≡◌ {A = ℕ} 0 1 = cc in absurd (omega arith)
        go false h false c Profile.Strict e = let z : ◌≡◌ {A = ℕ} 0 1 = cc in absurd (omega arith)
        go false h false c Profile.Loose e = let n : marked k key ≡ seen = cc in (refl, λ to v. subst (λ (x : Seen). Kept (value_at p levels s) s x to (key ∷ keys)) n (kept_below h to v))

    pub key_refused : is_text key ≡ true → (f : Fault) → key_at p s k at start end ≡ Err f → (c : Cause) × (key_fault p keys key ≡ Some c) × (fault c at ≡ f)
    unfolding key_at
    key_refused is f e =
        let r = go (is_above key keys) (is_used key keys) p (rw (above_agrees key, repeated_agrees) at e) in
        (r.0, fault_of_text p keys key is ∙ r.1, r.2)
      where
        go : (t u : Bool) (q : Profile) → cond t (Ok (risen s k start end)) (cond u (Err (fault Cause.RepeatedKey at)) (unsorted q at (marked k key))) ≡ Err f → (c : Cause) × (cond u (Some Cause.RepeatedKey) (order_fault q t) ≡ Some c) × (fault c at ≡ f)
        go true u q e = let z : ◌≡◌ {A = ℕ} 0 1 = cc in absurd (omega arith)
        go false true q e = (Cause.RepeatedKey, refl, cc)
        go false false Profile.Loose e = let z : ◌≡◌ {A = ℕ} 0 1 = cc in absurd (omega arith)
        go false false Profile.Strict e = (Cause.UnsortedKey, refl, cc)

-- ---- each way through the check of a key
module _ (s : List ℕ) (k : Seen) (at : ℕ) where
  pub above_none : (key : List ℕ) → at ≤ k.first → true ≡ above_at s k at key
  unfolding above_at
  above_none key h = rw (le-leb at k.first h) refl

  pub above_greatest : (key : List ℕ) → k.first < at → less (slice s k.start k.end) key ≡ above_at s k at key
  unfolding above_at
  above_greatest key h = rw (lt-leb at k.first h) refl

  module _ (start end : ℕ) (p : Profile) where
    pub key_above_all : above_at s k at (slice s start end) ≡ true → Ok (risen s k start end) ≡ key_at p s k at start end
    unfolding key_at
    key_above_all a = rw a refl

    pub key_again : above_at s k at (slice s start end) ≡ false → repeated_at s k (slice s start end) end ≡ true → Err (fault Cause.RepeatedKey at) ≡ key_at p s k at start end
    unfolding key_at
    key_again a u = rw (a, u) refl

    pub key_unsorted : (q : Profile) → p ≡ q → above_at s k at (slice s start end) ≡ false → repeated_at s k (slice s start end) end ≡ false → unsorted q at (marked k (slice s start end)) ≡ key_at p s k at start end
    unfolding key_at
    key_unsorted q e a u = rw (a, u, e) refl

module _ (s : List ℕ) (k : Seen) (key : List ℕ) (end : ℕ) where
  pub repeated_marked : is_marked k.marks (place_of key) ≡ true → used_at s k.first key end ≡ repeated_at s k key end
  unfolding repeated_at
  repeated_marked m = rw m refl

  pub repeated_new : is_marked k.marks (place_of key) ≡ false → false ≡ repeated_at s k key end
  unfolding repeated_at
  repeated_new m = rw m refl
