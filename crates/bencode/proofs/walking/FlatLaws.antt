-- The walk by one loop: `lands` is one law for every way of a turn.
-- Assumes nothing.
use Prim.Native.Nat.{ℕ, zero, suc, ◌+◌, ◌-◌, ◌<◌, ◌≤◌}
use mathlib.Core.Path.{◌≡◌, refl, sym, ap, subst, ◌∙◌}
use mathlib.Core.Bool.{Bool, true, false, cond}
use mathlib.Core.List.{List, [], ◌∷◌}
use native.Mathlib.Omega.{arith}
use borrow.Author.Tests.{eqb-true, eqb-false, ne_eqb}
use lib.Dec.{eqb}
use lib.ListN.{length, get_or, set, length-set}
use Rattle.bencode.specs.declared.tokens.Bracket.{Bracket}
use Rattle.bencode.specs.declared.tokens.Level.{Level}
use Rattle.bencode.specs.declared.tokens.Token.{Token}
use Rattle.bencode.specs.declared.key.Seen.{Seen}
use Rattle.bencode.specs.declared.profile.Profile.{Profile}
use Rattle.bencode.specs.declared.strings.Text.{Text}
use Rattle.octets.specs.Bytes.{byte_at, slice}
use Rattle.bencode.specs.Depth.{largest_depth}
use Rattle.bencode.specs.Fault.{fault, Walk}
use Rattle.bencode.specs.Flat.{opened, outside, Levels, advance}
use Rattle.bencode.specs.Tokens.{by_bracket, scalar_token, open_token, value_token, checked_token, text_token, key_token, token_at}
use Rattle.bencode.specs.Key.{key_fault}
use Rattle.bencode.specs.KeySearch.{key_text_at, Sound, risen, marked, unsorted, above_at, repeated_at, key_at}
use Rattle.bencode.specs.Loop.{LoopStep, next, done, Past}
use Rattle.bencode.specs.Scalar.{scalar_at}
use Rattle.bencode.specs.Strings.{string_at, text_of}
use Rattle.bencode.specs.Walk.{list_at, dictionary_from, value_at}
use Rattle.octets.proofs.digits.NumeralLaws.{inside}
use Rattle.bencode.proofs.utf8.TextKeyLaws.{key_stands}
use Rattle.bencode.proofs.walking.Ends.{string_whole_inv, scalar_ends}
use Rattle.bencode.proofs.walking.KeyLaws.{Kept, kept_none, key_allowed, key_refused}
use Rattle.bencode.proofs.walking.WalkLaws.{value_scalar, value_list, value_dictionary, value_deep_list, value_deep_dictionary, list_end, list_fault_lem, list_more, dictionary_end, dictionary_no_key, dictionary_refused, dictionary_fault, dictionary_more}
use Rattle.bencode.proofs.walking.OpenLevels.{and_then, FirstValue, Under, in_list, in_dictionary, Rest, over, rest_list, rest_dictionary, Stand, under_left, under_kept, under_fault, under_end}
use Rattle.std.specs.Prelude.{Ok, Err, Result, None}
use Rattle.bencode.specs.declared.fault.Fault.{Fault}
use Rattle.bencode.specs.declared.fault.Cause.{Cause}

module _ (p : Profile) (s : List ℕ) where
  -- ---- a turn
  -- what a turn at an offset comes to: what the payload's value comes to, or a stand further right
  abbrev pub Lands : ℕ → LoopStep Levels Walk → Type 0
  Lands at (done w) = w ≡ FirstValue p s
  Lands at (next to y) = Past s at to × Stand p s y.row y.depth y.level y.valued to

  module _ (row : List Level) (long : length row ≡ largest_depth) (x : Level) (d at : ℕ) where
    abbrev Turned : Bool → Result Token Fault → Type 0
    Turned valued t = Lands at (advance at (record { row = row; depth = d; level = x; valued = valued }) t)

    -- ---- a value is next
    module _ (l : ℕ) (o : Under p s row x d l at) (valued : Bool) where
      open_lands : (b : Bracket) → 0 < byte_at s at
          → (l ≡ 0 → Err (fault Cause.Depth at) ≡ value_at p l s at)
          → ((k : ℕ) → l ≡ suc k → Rest p s (set row d x) (opened b (at + 1)) (suc d) (at + 1))
          → Turned valued (open_token b d at)
      open_lands b h deep opens = go (eqb d largest_depth) refl l refl
        where
          go : (t : Bool) → eqb d largest_depth ≡ t → (k : ℕ) → l ≡ k → Turned valued (cond t (Err (fault Cause.Depth at)) (Ok (Token.Open b)))
          go true q k e = under_fault p s row x d l at (fault Cause.Depth at) o (sym (deep (omega (arith, eqb-true d largest_depth q, under_left p s row x d l at o))))
          go false q zero e = absurd (eqb-false d largest_depth q (omega (arith, under_left p s row x d l at o)))
          go false q (suc k) e =
              let j : suc d ≡ d + 1 = omega arith in
              (omega (arith, inside s at h), (length-set row d x ∙ long, subst (λ (i : ℕ). Rest p s (set row d x) (opened b (at + 1)) i (at + 1)) j (opens k e)))

      list_opens : byte_at s at ≡ 108 → (k : ℕ) → l ≡ suc k → Rest p s (set row d x) (opened Bracket.List (at + 1)) (suc d) (at + 1)
      list_opens b k e =
          let h : d < length row = omega (arith, long, e, under_left p s row x d l at o) in
          rest_list {x = opened Bracket.List (at + 1)} (omega arith) (under_kept p s row x d (suc k) at h (subst (λ (i : ℕ). Under p s row x d i at) e o)) refl (sym (value_list p (suc k) k s at refl b))

      dictionary_opens : byte_at s at ≡ 100 → (k : ℕ) → l ≡ suc k → Rest p s (set row d x) (opened Bracket.Dictionary (at + 1)) (suc d) (at + 1)
      dictionary_opens b k e =
          let h : d < length row = omega (arith, long, e, under_left p s row x d l at o) in
          rest_dictionary {x = opened Bracket.Dictionary (at + 1)} [] (under_kept p s row x d (suc k) at h (subst (λ (i : ℕ). Under p s row x d i at) e o)) refl (sym (value_dictionary p (suc k) k s at refl b)) (kept_none (value_at p k s) s (at + 1))

      scalar_lands : (w : Walk) → scalar_at s at ≡ w → value_at p l s at ≡ w → Turned valued (scalar_token w)
      scalar_lands (Ok end) q v = ((scalar_ends s at end q).past, (long, under_end p s row x d l at end o v))
      scalar_lands (Err f) q v = under_fault p s row x d l at f o v

      value_lands : Turned valued (value_token s d at)
      unfolding value_token
      value_lands = go (eqb (byte_at s at) 108) refl (eqb (byte_at s at) 100) refl
        where
          go : (t : Bool) → eqb (byte_at s at) 108 ≡ t → (u : Bool) → eqb (byte_at s at) 100 ≡ u → Turned valued (cond t (open_token Bracket.List d at) (cond u (open_token Bracket.Dictionary d at) (scalar_token (scalar_at s at))))
          go true q u r =
              let b = eqb-true (byte_at s at) 108 q in
              open_lands Bracket.List (omega (arith, b)) (λ z. value_deep_list p l s at z b) (list_opens b)
          go false q true r =
              let b = eqb-true (byte_at s at) 100 r in
              open_lands Bracket.Dictionary (omega (arith, b)) (λ z. value_deep_dictionary p l s at z b) (dictionary_opens b)
          go false q false r = scalar_lands (scalar_at s at) refl (sym (value_scalar p l s at (eqb-false (byte_at s at) 108 q) (eqb-false (byte_at s at) 100 r)))

  list_then : (l at : ℕ) → (byte_at s at ≡ 101 → ⊥) → list_at p l s at ≡ and_then (value_at p l s at) (list_at p l s)
  list_then l at b = go (value_at p l s at) refl
    where
      go : (w : Walk) → value_at p l s at ≡ w → list_at p l s at ≡ and_then w (list_at p l s)
      go (Ok e) q = sym (list_more p l s at b e q)
      go (Err f) q = sym (list_fault_lem p l s at b f q)

  -- ---- a key is next
  entry_then : (l at start end : ℕ) (keys : List (List ℕ)) → (byte_at s at ≡ 101 → ⊥) → string_at s at ≡ Ok (text_of start end) → key_fault p keys (slice s start end) ≡ None → dictionary_from p (value_at p l s) s at keys ≡ and_then (value_at p l s end) (λ e. dictionary_from p (value_at p l s) s e (slice s start end ∷ keys))
  entry_then l at start end keys b text k = go (value_at p l s end) refl
    where
      go : (w : Walk) → value_at p l s end ≡ w → dictionary_from p (value_at p l s) s at keys ≡ and_then w (λ e. dictionary_from p (value_at p l s) s e (slice s start end ∷ keys))
      go (Ok e) q = sym (dictionary_more p l s at keys b start end text k e q)
      go (Err f) q = sym (dictionary_fault p l s at keys b start end text k f q)

  -- the greatest key after one that is allowed lies in the payload too
  allowed_sound : (seen : Seen) (at start end : ℕ) (after : Seen) → Sound s seen → (start ≤ end) × (end ≤ length s) → key_at p s seen at start end ≡ Ok after → Sound s (after)
  unfolding key_at
  allowed_sound seen at start end after w h e = go (above_at s seen at (slice s start end)) (repeated_at s seen (slice s start end) end) p e
    where
      go : (t u : Bool) (q : Profile) → cond t (Ok (risen s seen start end)) (cond u (Err (fault Cause.RepeatedKey at)) (unsorted q at (marked seen (slice s start end)))) ≡ Ok after → Sound s after
      go true u q e = let n : risen s seen start end ≡ after = cc in subst (Sound s) n h
      go false true q e = let z : ◌≡◌ {A = ℕ} 0 1 = cc in absurd (omega arith)
      go false false Profile.Loose e = let n : marked seen (slice s start end) ≡ after = cc in subst (Sound s) n w
      go false false Profile.Strict e = let z : ◌≡◌ {A = ℕ} 0 1 = cc in absurd (omega arith)

  module _ (row : List Level) (long : length row ≡ largest_depth) (x : Level) (c l u at : ℕ) (keys : List (List ℕ)) (o : Under p s row (get_or row c outside) c (suc l) u) (e : value_at p (suc l) s u ≡ dictionary_from p (value_at p l s) s at keys) (k : Kept (value_at p l s) s x.seen at keys) (b : byte_at s at ≡ 101 → ⊥) where
    key_lands : Turned row long x (suc c) at false (key_token p s x.seen at)
    key_lands = go (key_text_at s at) refl
      where
        checked : (start end : ℕ) → key_text_at s at ≡ Ok (text_of start end) → (r : Result Seen Fault) → key_at p s x.seen at start end ≡ r → Turned row long x (suc c) at false (checked_token end r)
        checked start end q (Ok after) r =
            let is = key_stands s at start end q in
            let w = string_whole_inv s at start end is.0 in
            let ok = key_allowed p l s x.seen at keys k start end is.0 is.1 after r in
            (omega (arith, w.starts, w.ordered, w.within), (long, (l, in_dictionary (slice s start end ∷ keys) (allowed_sound x.seen at start end after (k.ordered, k.within) (w.ordered, w.within) r) o refl (e ∙ entry_then l at start end keys b is.0 ok.0) ok.1)))
        checked start end q (Err f) r =
            let is = key_stands s at start end q in
            let no = key_refused p l s x.seen at keys k start end is.0 is.1 f r in
            under_fault p s row (get_or row c outside) c (suc l) u f o (e ∙ sym (dictionary_refused p l s at keys b start end is.0 no.0 no.1) ∙ ap Err no.2)

        go : (t : Result Text Fault) → key_text_at s at ≡ t → Turned row long x (suc c) at false (text_token p s x.seen at t)
        go (Err f) q = under_fault p s row (get_or row c outside) c (suc l) u f o (e ∙ sym (dictionary_no_key p l s at keys b f q))
        go (Ok t) q = checked t.start t.end q (key_at p s x.seen at t.start t.end) refl

  -- ---- every way of a turn
  close_lands : (row : List Level) (long : length row ≡ largest_depth) (x : Level) (c l u at : ℕ) → Under p s row (get_or row c outside) c (suc l) u → value_at p (suc l) s u ≡ Ok (at + 1) → byte_at s at ≡ 101 → Turned row long x (suc c) at false (Ok Token.Close)
  close_lands row long x c l u at o e b =
      let j : c ≡ suc c - 1 = omega arith in
      (omega (arith, inside s at (omega (arith, b))), (long, subst (λ (i : ℕ). Rest p s row (get_or row i outside) i (at + 1)) j (under_end p s row (get_or row c outside) c (suc l) u (at + 1) o e)))

  rest_lands : (row : List Level) (long : length row ≡ largest_depth) (x : Level) (d at : ℕ) → Rest p s row x d at → Turned row long x d at false (token_at p s d x false at)
  unfolding token_at
  rest_lands row long x d at (over w e) = sym e
  rest_lands row long x d at (rest_list {d = c} {l = l} {u = u} w o m e) = go (eqb (byte_at s at) 101) refl
    where
      go : (t : Bool) → eqb (byte_at s at) 101 ≡ t → Turned row long x (suc c) at false (token_at p s (suc c) x false at)
      go true q = rw (q, ne_eqb (suc c) 0 (λ z. omega arith)) (close_lands row long x c l u at o (e ∙ sym (list_end p l s at (eqb-true (byte_at s at) 101 q))) (eqb-true (byte_at s at) 101 q))
      go false q = rw (q, ne_eqb (suc c) 0 (λ z. omega arith)) (subst (λ (k : Bracket). Turned row long x (suc c) at false (by_bracket k (value_token s (suc c) at) (key_token p s x.seen at))) (sym m) (value_lands row long x (suc c) at l (in_list w o m (e ∙ list_then l at (eqb-false (byte_at s at) 101 q))) false))
  rest_lands row long x d at (rest_dictionary {d = c} {l = l} {u = u} keys o m e k) = go (eqb (byte_at s at) 101) refl
    where
      go : (t : Bool) → eqb (byte_at s at) 101 ≡ t → Turned row long x (suc c) at false (token_at p s (suc c) x false at)
      go true q = rw (q, ne_eqb (suc c) 0 (λ z. omega arith)) (close_lands row long x c l u at o (e ∙ sym (dictionary_end p l s at keys (eqb-true (byte_at s at) 101 q))) (eqb-true (byte_at s at) 101 q))
      go false q = rw (q, ne_eqb (suc c) 0 (λ z. omega arith)) (subst (λ (k : Bracket). Turned row long x (suc c) at false (by_bracket k (value_token s (suc c) at) (key_token p s x.seen at))) (sym m) (key_lands row long x c l u at keys o e k (eqb-false (byte_at s at) 101 q)))

  pub lands : (row : List Level) (d : ℕ) (x : Level) (valued : Bool) (at : ℕ) → Stand p s row d x valued at → Lands at (advance at (record { row = row; depth = d; level = x; valued = valued }) (token_at p s d x valued at))
  unfolding token_at
  lands row d x true at st = value_lands row st.0 x d at st.1.0 st.1.1 true
  lands row d x false at st = rest_lands row st.0 x d at st.1

  -- the same by the token that is found
  pub lands_told : (row : List Level) (d : ℕ) (x : Level) (valued : Bool) (at : ℕ) → Stand p s row d x valued at → (t : Result Token Fault) → token_at p s d x valued at ≡ t → Lands at (advance at (record { row = row; depth = d; level = x; valued = valued }) t)
  lands_told row d x valued at st t e = subst (λ (t : Result Token Fault). Lands at (advance at (record { row = row; depth = d; level = x; valued = valued }) t)) e (lands row d x valued at st)
