-- Laws of values, lists and dictionaries: one for each way through their walkers, and where they end.
-- Assumes nothing.
use Prim.Native.Nat.{ℕ, zero, suc, ◌+◌, ◌-◌, ◌<◌}
use mathlib.Core.Path.{◌≡◌, refl, sym, ap, ◌∙◌}
use mathlib.Core.Bool.{Bool, true, false, cond}
use mathlib.Core.List.{List, [], ◌∷◌}
use native.Mathlib.Omega.{arith}
use borrow.Author.Tests.{eqb-true, eq-eqb, ne_eqb}
use lib.Dec.{eqb}
use lib.ListN.{length}
use Rattle.bencode.specs.declared.fault.Fault.{Fault}
use Rattle.bencode.specs.declared.strings.Text.{Text}
use Rattle.bencode.specs.declared.profile.Profile.{Profile}
use Rattle.octets.specs.Bytes.{byte_at, slice}
use Rattle.bencode.specs.Fault.{fault, code_of, offset_of, Walk}
use Rattle.bencode.specs.Strings.{string_at, text_of}
use Rattle.bencode.specs.Loop.{next, done, after_step, Past, Onward}
use Rattle.bencode.specs.Utf8.{is_text}
use Rattle.bencode.specs.Key.{key_fault}
use Rattle.bencode.specs.KeySearch.{as_key, key_text_at}
use Rattle.bencode.specs.Scalar.{scalar_at}
use Rattle.bencode.specs.Walk.{onward, list_step, list_from, entry_step, dictionary_step, dictionary_from, value_at, list_at, dictionary_at, payload_at, payload_code, payload_offset, keyed}
use Rattle.octets.proofs.digits.NumeralLaws.{inside}
use Rattle.bencode.proofs.loops.LoopLaws.{repeat_step, repeat_end}
use Rattle.bencode.proofs.walking.Ends.{string_whole_inv, scalar_ends}
use Rattle.bencode.proofs.utf8.TextKeyLaws.{fault_of_no_text}
use Rattle.std.specs.Prelude.{Ok, Err, Result, Option, Some, None}
use Rattle.bencode.specs.declared.fault.Cause.{Cause}

-- a walker of values ends after where it starts
abbrev pub Ends : List ℕ → (ℕ → Walk) → Type 0
Ends s value = (at end : ℕ) → value at ≡ Ok end → Past s at end

-- an `e` is one byte
letter_e_lem : (s : List ℕ) (at end : ℕ) → byte_at s at ≡ 101 → at + 1 ≡ end → Past s at end
letter_e_lem s at end b q = omega (arith, inside s at (omega arith))

-- ---- lists and dictionaries, over any walker of values
module _ (s : List ℕ) (value : ℕ → Walk) (ends : Ends s value) where
  list_onward : Onward s (list_step value s)
  list_onward at x to y e = go (eqb (byte_at s at) 101) (value at) refl e
    where
      go : (t : Bool) (w : Walk) → value at ≡ w → cond t (done (Ok (at + 1))) (onward w x) ≡ next to y → Past s at to
      go true w p e = let z : ◌≡◌ {A = ℕ} 0 1 = cc in absurd (omega arith)
      go false (Err f) p e = let z : ◌≡◌ {A = ℕ} 0 1 = cc in absurd (omega arith)
      go false (Ok k) p e = let i : k ≡ to = cc in omega (arith, ends at k p)

  list_stops : (at : ℕ) (x : Unit {0}) (end : ℕ) → list_step value s at x ≡ done (Ok end) → Past s at end
  list_stops at x end e = go (eqb (byte_at s at) 101) refl (value at) e
    where
      go : (t : Bool) → eqb (byte_at s at) 101 ≡ t → (w : Walk) → cond t (done (Ok (at + 1))) (onward w x) ≡ done (Ok end) → Past s at end
      go true p w e = letter_e_lem s at end (eqb-true (byte_at s at) 101 p) (cc)
      go false p (Err f) e = let z : ◌≡◌ {A = ℕ} 0 1 = cc in absurd (omega arith)
      go false p (Ok k) e = let z : ◌≡◌ {A = ℕ} 0 1 = cc in absurd (omega arith)

  list_ends : Ends s (list_from value s)
  unfolding list_from
  list_ends at end e = repeat_end s (list_step value s) list_onward list_stops (fault Cause.Syntax at) (suc (length s - at)) at tt end e

  list_step_lem : (at : ℕ) → list_from value s at ≡ after_step (list_step value s at tt) (λ to y. list_from value s to)
  unfolding list_from
  list_step_lem at = repeat_step s (list_step value s) list_onward (λ (k : ℕ). Err (fault Cause.Syntax k)) at tt

  pub any_list_end : (at : ℕ) → byte_at s at ≡ 101 → Ok (at + 1) ≡ list_from value s at
  any_list_end at b = rw (list_step_lem at, eq-eqb (byte_at s at) 101 b) refl

  pub any_list_fault : (at : ℕ) (f : Fault) → (byte_at s at ≡ 101 → ⊥) → value at ≡ Err f → Err f ≡ list_from value s at
  any_list_fault at f b e = rw (list_step_lem at, ne_eqb (byte_at s at) 101 b, e) refl

  pub any_list_more : (at end : ℕ) → (byte_at s at ≡ 101 → ⊥) → value at ≡ Ok end → list_from value s end ≡ list_from value s at
  any_list_more at end b e = rw (list_step_lem at, ne_eqb (byte_at s at) 101 b, e) refl

  module _ (p : Profile) where
    dictionary_onward : Onward s (dictionary_step p value s)
    dictionary_onward at x to y e = go (eqb (byte_at s at) 101) (string_at s at) refl e
      where
        keyed_on : (r : Option Cause) (end : ℕ) (keys : List (List ℕ)) → at < end → (w : Walk) → value end ≡ w → keyed r at w keys ≡ next to y → Past s at to
        keyed_on None end keys l (Ok k) q e = let i : k ≡ to = cc in omega (arith, ends end k q)
        keyed_on None end keys l (Err g) q e = let z : ◌≡◌ {A = ℕ} 0 1 = cc in absurd (omega arith)
        keyed_on (Some c) end keys l w q e = let z : ◌≡◌ {A = ℕ} 0 1 = cc in absurd (omega arith)

        go : (t : Bool) (w : Result Text Fault) → string_at s at ≡ w → cond t (done (Ok (at + 1))) (entry_step p value s at x w) ≡ next to y → Past s at to
        go true w q e = let z : ◌≡◌ {A = ℕ} 0 1 = cc in absurd (omega arith)
        go false (Err f) q e = let z : ◌≡◌ {A = ℕ} 0 1 = cc in absurd (omega arith)
        go false (Ok t) q e =
            let w = string_whole_inv s at t.start t.end q in
            keyed_on (key_fault p x (slice s t.start t.end)) t.end (slice s t.start t.end ∷ x) (omega arith) (value t.end) refl e

    dictionary_stops : (at : ℕ) (x : List (List ℕ)) (end : ℕ) → dictionary_step p value s at x ≡ done (Ok end) → Past s at end
    dictionary_stops at x end e = go (eqb (byte_at s at) 101) refl (string_at s at) e
      where
        keyed_done : (r : Option Cause) (keys : List (List ℕ)) (w : Walk) → keyed r at w keys ≡ done (Ok end) → Past s at end
        keyed_done None keys (Ok k) e = let z : ◌≡◌ {A = ℕ} 0 1 = cc in absurd (omega arith)
        keyed_done None keys (Err g) e = let z : ◌≡◌ {A = ℕ} 0 1 = cc in absurd (omega arith)
        keyed_done (Some c) keys w e = let z : ◌≡◌ {A = ℕ} 0 1 = cc in absurd (omega arith)

        go : (t : Bool) → eqb (byte_at s at) 101 ≡ t → (w : Result Text Fault) → cond t (done (Ok (at + 1))) (entry_step p value s at x w) ≡ done (Ok end) → Past s at end
        go true q w e = letter_e_lem s at end (eqb-true (byte_at s at) 101 q) (cc)
        go false q (Err f) e = let z : ◌≡◌ {A = ℕ} 0 1 = cc in absurd (omega arith)
        go false q (Ok t) e = keyed_done (key_fault p x (slice s t.start t.end)) (slice s t.start t.end ∷ x) (value t.end) e

    dictionary_ends : (keys : List (List ℕ)) → Ends s (λ at. dictionary_from p value s at keys)
    unfolding dictionary_from
    dictionary_ends keys at end e = repeat_end s (dictionary_step p value s) dictionary_onward dictionary_stops (fault Cause.Syntax at) (suc (length s - at)) at keys end e

    dictionary_step_lem : (at : ℕ) (keys : List (List ℕ)) → dictionary_from p value s at keys ≡ after_step (dictionary_step p value s at keys) (λ to y. dictionary_from p value s to y)
    unfolding dictionary_from
    dictionary_step_lem at keys = repeat_step s (dictionary_step p value s) dictionary_onward (λ (k : ℕ). Err (fault Cause.Syntax k)) at keys

    pub any_dictionary_end : (at : ℕ) (keys : List (List ℕ)) → byte_at s at ≡ 101 → Ok (at + 1) ≡ dictionary_from p value s at keys
    any_dictionary_end at keys b = rw (dictionary_step_lem at keys, eq-eqb (byte_at s at) 101 b) refl

    module _ (at : ℕ) (keys : List (List ℕ)) (b : byte_at s at ≡ 101 → ⊥) where
      module _ (start end : ℕ) (key : string_at s at ≡ Ok (text_of start end)) where
        pub any_dictionary_refused : (c : Cause) → key_fault p keys (slice s start end) ≡ Some c → Err (fault c at) ≡ dictionary_from p value s at keys
        any_dictionary_refused c k = rw (dictionary_step_lem at keys, ne_eqb (byte_at s at) 101 b, key, k) refl

        pub any_dictionary_fault : (f : Fault) → key_fault p keys (slice s start end) ≡ None → value end ≡ Err f → Err f ≡ dictionary_from p value s at keys
        any_dictionary_fault f k e = rw (dictionary_step_lem at keys, ne_eqb (byte_at s at) 101 b, key, k, e) refl

        pub any_dictionary_more : (to : ℕ) → key_fault p keys (slice s start end) ≡ None → value end ≡ Ok to → dictionary_from p value s to (slice s start end ∷ keys) ≡ dictionary_from p value s at keys
        any_dictionary_more to k e = rw (dictionary_step_lem at keys, ne_eqb (byte_at s at) 101 b, key, k, e) refl

      pub any_dictionary_no_key : (f : Fault) → key_text_at s at ≡ Err f → Err f ≡ dictionary_from p value s at keys
      unfolding key_text_at
      any_dictionary_no_key f e = go (string_at s at) refl e
        where
          no_text : (start end : ℕ) → string_at s at ≡ Ok (text_of start end) → (t : Bool) → is_text (slice s start end) ≡ t → cond t (Ok (text_of start end)) (Err (fault Cause.IllFormedKey at)) ≡ Err f → Err f ≡ dictionary_from p value s at keys
          no_text start end q true h e = let z : ◌≡◌ {A = ℕ} 0 1 = cc in absurd (omega arith)
          no_text start end q false h e =
              let i : fault Cause.IllFormedKey at ≡ f = cc in
              ap Err (sym i) ∙ any_dictionary_refused start end q Cause.IllFormedKey (fault_of_no_text p keys (slice s start end) h)

          go : (w : Result Text Fault) → string_at s at ≡ w → as_key s at w ≡ Err f → Err f ≡ dictionary_from p value s at keys
          go (Ok t) q e = no_text t.start t.end q (is_text (slice s t.start t.end)) refl e
          go (Err g) q e =
              let i : g ≡ f = cc in
              rw (dictionary_step_lem at keys, ne_eqb (byte_at s at) 101 b, q, i) refl

-- ---- values: where they end, by the levels
pub value_ends : (p : Profile) (levels : ℕ) (s : List ℕ) → Ends s (value_at p levels s)
unfolding value_at
value_ends p zero s at end e = go (eqb (byte_at s at) 108) (eqb (byte_at s at) 100) e
  where
    go : (t u : Bool) → cond t (Err (fault Cause.Depth at)) (cond u (Err (fault Cause.Depth at)) (scalar_at s at)) ≡ Ok end → Past s at end
    go true u e = let z : ◌≡◌ {A = ℕ} 0 1 = cc in absurd (omega arith)
    go false true e = let z : ◌≡◌ {A = ℕ} 0 1 = cc in absurd (omega arith)
    go false false e = (scalar_ends s at end e).past
value_ends p (suc levels) s at end e = go (eqb (byte_at s at) 108) (eqb (byte_at s at) 100) (value_ends p levels s) e
  where
    go : (t u : Bool) → Ends s (value_at p levels s) → cond t (list_from (value_at p levels s) s (at + 1)) (cond u (dictionary_from p (value_at p levels s) s (at + 1) []) (scalar_at s at)) ≡ Ok end → Past s at end
    go true u h e = omega (arith, list_ends s (value_at p levels s) h (at + 1) end e)
    go false true h e = omega (arith, dictionary_ends s (value_at p levels s) h p [] (at + 1) end e)
    go false false h e = (scalar_ends s at end e).past

-- ---- values, for each way through `value`
pub value_scalar : (p : Profile) (levels : ℕ) (s : List ℕ) (at : ℕ) → (byte_at s at ≡ 108 → ⊥) → (byte_at s at ≡ 100 → ⊥) → scalar_at s at ≡ value_at p levels s at
unfolding value_at
value_scalar p zero s at l d = rw (ne_eqb (byte_at s at) 108 l, ne_eqb (byte_at s at) 100 d) refl
value_scalar p (suc k) s at l d = rw (ne_eqb (byte_at s at) 108 l, ne_eqb (byte_at s at) 100 d) refl

-- a string or an integer is a value, at any depth
pub scalar_value : (p : Profile) (levels : ℕ) (s : List ℕ) (at end : ℕ) → scalar_at s at ≡ Ok end → value_at p levels s at ≡ Ok end
scalar_value p levels s at end e = let w = scalar_ends s at end e in sym (value_scalar p levels s at w.no_list w.no_dictionary) ∙ e

pub value_deep_list : (p : Profile) (levels : ℕ) (s : List ℕ) (at : ℕ) → levels ≡ 0 → byte_at s at ≡ 108 → Err (fault Cause.Depth at) ≡ value_at p levels s at
unfolding value_at
value_deep_list p levels s at none b = rw (none, eq-eqb (byte_at s at) 108 b) refl

pub value_deep_dictionary : (p : Profile) (levels : ℕ) (s : List ℕ) (at : ℕ) → levels ≡ 0 → byte_at s at ≡ 100 → Err (fault Cause.Depth at) ≡ value_at p levels s at
unfolding value_at
value_deep_dictionary p levels s at none b = rw (none, b) refl

pub value_list : (p : Profile) (levels inner : ℕ) (s : List ℕ) (at : ℕ) → levels ≡ suc inner → byte_at s at ≡ 108 → list_at p inner s (at + 1) ≡ value_at p levels s at
unfolding value_at
value_list p levels inner s at one b = rw (one, eq-eqb (byte_at s at) 108 b) refl

pub value_dictionary : (p : Profile) (levels inner : ℕ) (s : List ℕ) (at : ℕ) → levels ≡ suc inner → byte_at s at ≡ 100 → dictionary_at p inner s (at + 1) ≡ value_at p levels s at
unfolding value_at
value_dictionary p levels inner s at one b = rw (one, b) refl

-- ---- lists and dictionaries, for each way through their walkers
module _ (p : Profile) (levels : ℕ) (s : List ℕ) (at : ℕ) where
  pub list_end : byte_at s at ≡ 101 → Ok (at + 1) ≡ list_at p levels s at
  list_end b = any_list_end s (value_at p levels s) (value_ends p levels s) at b

  module _ (b : byte_at s at ≡ 101 → ⊥) where
    pub list_fault_lem : (f : Fault) → value_at p levels s at ≡ Err f → Err f ≡ list_at p levels s at
    list_fault_lem f e = any_list_fault s (value_at p levels s) (value_ends p levels s) at f b e

    pub list_more : (end : ℕ) → value_at p levels s at ≡ Ok end → list_at p levels s end ≡ list_at p levels s at
    list_more end e = any_list_more s (value_at p levels s) (value_ends p levels s) at end b e

  module _ (keys : List (List ℕ)) where
    pub dictionary_end : byte_at s at ≡ 101 → Ok (at + 1) ≡ dictionary_from p (value_at p levels s) s at keys
    dictionary_end b = any_dictionary_end s (value_at p levels s) (value_ends p levels s) p at keys b

    module _ (b : byte_at s at ≡ 101 → ⊥) where
      pub dictionary_no_key : (f : Fault) → key_text_at s at ≡ Err f → Err f ≡ dictionary_from p (value_at p levels s) s at keys
      dictionary_no_key f e = any_dictionary_no_key s (value_at p levels s) (value_ends p levels s) p at keys b f e

      module _ (start end : ℕ) (text : string_at s at ≡ Ok (text_of start end)) where
        pub dictionary_refused : (c : Cause) → key_fault p keys (slice s start end) ≡ Some c → Err (fault c at) ≡ dictionary_from p (value_at p levels s) s at keys
        dictionary_refused c k = any_dictionary_refused s (value_at p levels s) (value_ends p levels s) p at keys b start end text c k

        module _ (k : key_fault p keys (slice s start end) ≡ None) where
          pub dictionary_fault : (f : Fault) → value_at p levels s end ≡ Err f → Err f ≡ dictionary_from p (value_at p levels s) s at keys
          dictionary_fault f e = any_dictionary_fault s (value_at p levels s) (value_ends p levels s) p at keys b start end text f k e

          pub dictionary_more : (to : ℕ) → value_at p levels s end ≡ Ok to → dictionary_from p (value_at p levels s) s to (slice s start end ∷ keys) ≡ dictionary_from p (value_at p levels s) s at keys
          dictionary_more to e = any_dictionary_more s (value_at p levels s) (value_ends p levels s) p at keys b start end text to k e

-- document 01's numbers follow from what the walk finds
pub numbered : (p : Profile) (s : List ℕ) {r : Walk} → r ≡ payload_at p s → (r ≡ payload_at p s) × ((code_of r ≡ payload_code p s) × (offset_of r ≡ payload_offset p s))
unfolding payload_code payload_offset
numbered p s e = (e, (ap code_of e, ap offset_of e))
