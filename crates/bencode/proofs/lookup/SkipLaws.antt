-- Laws of skipping: one for each way through `skip`, where it ends, and that it ends where a walked value does.
-- Assumes nothing.
use Prim.Native.Nat.{ℕ, zero, suc, ◌+◌, ◌-◌, ◌≤◌, ◌<◌}
use mathlib.Core.Path.{◌≡◌, refl, sym, ◌∙◌}
use mathlib.Core.Bool.{Bool, true, false, cond, ◌||◌}
use mathlib.Core.List.{List, [], ◌∷◌}
use native.Mathlib.Omega.{arith}
use borrow.Author.Tests.{eqb-true, ne_eqb}
use lib.Dec.{eqb}
use lib.ListN.{length}
use Rattle.bencode.specs.declared.fault.Fault.{Fault}
use Rattle.bencode.specs.declared.strings.Text.{Text}
use Rattle.bencode.specs.declared.profile.Profile.{Profile}
use Rattle.octets.specs.Bytes.{byte_at, slice}
use Rattle.bencode.specs.Fault.{fault, Walk}
use Rattle.bencode.specs.Strings.{string_at, text_of}
use Rattle.bencode.specs.Key.{key_fault}
use Rattle.bencode.specs.Loop.{LoopStep, next, done, after_step, repeat, Past, Onward}
use Rattle.bencode.specs.Scalar.{scalar_at}
use Rattle.bencode.specs.Walk.{onward, list_step, list_from, entry_step, dictionary_step, dictionary_from, value_at, keyed}
use Rattle.bencode.specs.Skip.{opens, landed, past_scalar, skip_step, skip_from}
use Rattle.octets.proofs.digits.NumeralLaws.{inside}
use Rattle.bencode.proofs.loops.LoopLaws.{repeat_step}
use Rattle.octets.proofs.sequences.Order.{clash}
use Rattle.bencode.proofs.walking.Ends.{string_whole_inv, scalar_ends}
use Rattle.std.specs.Prelude.{Ok, Err, Result, Option, Some, None}
use Rattle.bencode.specs.declared.fault.Cause.{Cause}

-- ---- opening bytes
pub opens_some : (b : ℕ) → opens b ≡ true → 100 ≤ b
opens_some b o = go (eqb b 108) refl (eqb b 100) refl o
  where
    go : (t : Bool) → eqb b 108 ≡ t → (u : Bool) → eqb b 100 ≡ u → t || u ≡ true → 100 ≤ b
    go true p u q o = omega (arith, eqb-true b 108 p)
    go false p true q o = omega (arith, eqb-true b 100 q)
    go false p false q o = clash false o refl

not_opens : (b : ℕ) → (b ≡ 108 → ⊥) → (b ≡ 100 → ⊥) → opens b ≡ false
not_opens b l d = rw (ne_eqb b 108 l, ne_eqb b 100 d) refl

opens_list : (b : ℕ) → eqb b 108 ≡ true → opens b ≡ true
opens_list b e = rw e refl

opens_dictionary : (b : ℕ) → eqb b 100 ≡ true → opens b ≡ true
opens_dictionary b e = rw (eqb-true b 100 e) refl

-- ---- where a step of skipping lands
landed_none : (at depth : ℕ) → depth ≡ 0 → landed at depth ≡ done at
landed_none at depth e = rw e refl

landed_some : (at depth : ℕ) → (depth ≡ 0 → ⊥) → landed at depth ≡ next at depth
landed_some at zero h = absurd (h refl)
landed_some at (suc d) h = refl

landed_on : (at depth to d : ℕ) → landed at depth ≡ next to d → at ≡ to
landed_on at zero to d e = let z : ◌≡◌ {A = ℕ} 0 1 = cc in absurd (omega arith)
landed_on at (suc k) to d e = cc

module _ (s : List ℕ) where
  -- a byte that the skipper or a walker tests for is one byte of the payload
  one_byte : (at to : ℕ) → 0 < byte_at s at → at + 1 ≡ to → Past s at to
  one_byte at to b e = omega (arith, inside s at b)

  skip_onward : Onward s (skip_step s)
  skip_onward at depth to d e = go (eqb (byte_at s at) 108) refl (eqb (byte_at s at) 100) refl (eqb (byte_at s at) 101) refl (scalar_at s at) refl e
    where
      go : (t : Bool) → eqb (byte_at s at) 108 ≡ t → (u : Bool) → eqb (byte_at s at) 100 ≡ u → (v : Bool) → eqb (byte_at s at) 101 ≡ v → (w : Walk) → scalar_at s at ≡ w → cond (t || u) (next (at + 1) (depth + 1)) (cond v (landed (at + 1) (depth - 1)) (past_scalar at depth w)) ≡ next to d → Past s at to
      go true p u q v r w x e = one_byte at to (omega (arith, eqb-true (byte_at s at) 108 p)) (cc)
      go false p true q v r w x e = one_byte at to (omega (arith, eqb-true (byte_at s at) 100 q)) (cc)
      go false p false q true r w x e = one_byte at to (omega (arith, eqb-true (byte_at s at) 101 r)) (landed_on (at + 1) (depth - 1) to d e)
      go false p false q false r (Ok k) x e = let i = landed_on k depth to d e in let h = scalar_ends s at k x in omega arith
      go false p false q false r (Err f) x e = let z : ◌≡◌ {A = ℕ} 0 1 = cc in absurd (omega arith)

  skip_step_lem : (at depth : ℕ) → skip_from s at depth ≡ after_step (skip_step s at depth) (λ to d. skip_from s to d)
  unfolding skip_from
  skip_step_lem at depth = repeat_step s (skip_step s) skip_onward (λ (k : ℕ). k) at depth

  module _ (at depth : ℕ) where
    pub skip_open : opens (byte_at s at) ≡ true → skip_from s (at + 1) (depth + 1) ≡ skip_from s at depth
    skip_open o = rw (skip_step_lem at depth, o) refl

    pub skip_last : byte_at s at ≡ 101 → depth ≤ 1 → at + 1 ≡ skip_from s at depth
    skip_last b h = rw (skip_step_lem at depth, b, landed_none (at + 1) (depth - 1) (omega arith)) refl

    pub skip_close : byte_at s at ≡ 101 → 1 < depth → skip_from s (at + 1) (depth - 1) ≡ skip_from s at depth
    skip_close b h = rw (skip_step_lem at depth, b, landed_some (at + 1) (depth - 1) (omega arith)) refl

    module _ (o : opens (byte_at s at) ≡ false) (e : byte_at s at ≡ 101 → ⊥) where
      skip_scalar_step : (w : Walk) → scalar_at s at ≡ w → skip_from s at depth ≡ after_step (past_scalar at depth w) (λ to d. skip_from s to d)
      skip_scalar_step w x = rw (skip_step_lem at depth, o, ne_eqb (byte_at s at) 101 e, x) refl

      pub skip_fault : (f : Fault) → scalar_at s at ≡ Err f → at ≡ skip_from s at depth
      skip_fault f x = sym (skip_scalar_step (Err f) x)

      pub skip_scalar_last : (end : ℕ) → scalar_at s at ≡ Ok end → depth ≡ 0 → end ≡ skip_from s at depth
      skip_scalar_last end x z = sym (skip_scalar_step (Ok end) x ∙ rw (landed_none end depth z) refl)

      pub skip_scalar : (end : ℕ) → scalar_at s at ≡ Ok end → (depth ≡ 0 → ⊥) → skip_from s end depth ≡ skip_from s at depth
      skip_scalar end x z = sym (skip_scalar_step (Ok end) x ∙ rw (landed_some end depth z) refl)

  -- ---- where skipping ends: not before its start, and no further than the payload
  landed_done : (at depth r : ℕ) → landed at depth ≡ done r → at ≡ r
  landed_done at zero r e = cc
  landed_done at (suc d) r e = let z : ◌≡◌ {A = ℕ} 0 1 = cc in absurd (omega arith)

  skip_stops : (at depth r : ℕ) → at ≤ length s → skip_step s at depth ≡ done r → (at ≤ r) × (r ≤ length s)
  skip_stops at depth r h e = go (eqb (byte_at s at) 108 || eqb (byte_at s at) 100) (eqb (byte_at s at) 101) refl (scalar_at s at) refl e
    where
      go : (t u : Bool) → eqb (byte_at s at) 101 ≡ u → (w : Walk) → scalar_at s at ≡ w → cond t (next (at + 1) (depth + 1)) (cond u (landed (at + 1) (depth - 1)) (past_scalar at depth w)) ≡ done r → (at ≤ r) × (r ≤ length s)
      go true u p w x e = let z : ◌≡◌ {A = ℕ} 0 1 = cc in absurd (omega arith)
      go false true p w x e = let i = landed_done (at + 1) (depth - 1) r e in omega (arith, inside s at (omega (arith, eqb-true (byte_at s at) 101 p)))
      go false false p (Ok k) x e = let i = landed_done k depth r e in let w = scalar_ends s at k x in omega arith
      go false false p (Err f) x e = let i : at ≡ r = cc in omega arith

  repeat_range : (from n at depth : ℕ) → from ≤ at → at ≤ length s → (from ≤ repeat (skip_step s) from n at depth) × (repeat (skip_step s) from n at depth ≤ length s)
  unfolding repeat
  repeat_range from zero at depth l h = omega arith
  repeat_range from (suc n) at depth l h = go (skip_step s at depth) refl (λ to d p q. repeat_range from n to d p q)
    where
      go : (t : LoopStep ℕ ℕ) → skip_step s at depth ≡ t → ((to d : ℕ) → from ≤ to → to ≤ length s → (from ≤ repeat (skip_step s) from n to d) × (repeat (skip_step s) from n to d ≤ length s)) → (from ≤ after_step t (λ to d. repeat (skip_step s) from n to d)) × (after_step t (λ to d. repeat (skip_step s) from n to d) ≤ length s)
      go (next to d) e rec = let o = skip_onward at depth to d e in rec to d (omega arith) (omega arith)
      go (done r) e rec = let o = skip_stops at depth r h e in omega arith

  pub skip_range : (at depth : ℕ) → at ≤ length s → (at ≤ skip_from s at depth) × (skip_from s at depth ≤ length s)
  unfolding skip_from
  skip_range at depth h = repeat_range at (suc (length s - at)) at depth (omega arith) h

  -- ---- a walked value is skipped to its end
  abbrev pub Skips : (ℕ → Walk) → Type 0
  Skips value = (at end : ℕ) → value at ≡ Ok end → (depth : ℕ) → skip_from s at depth ≡ after_step (landed end depth) (λ to d. skip_from s to d)

  pub scalar_skips : Skips (scalar_at s)
  scalar_skips at end e depth = let w = scalar_ends s at end e in skip_scalar_step at depth (not_opens (byte_at s at) w.no_list w.no_dictionary) w.no_e (Ok end) e

  -- inside a list or a dictionary skipping goes on
  inner : (value : ℕ → Walk) → Skips value → (at end depth : ℕ) → value at ≡ Ok end → skip_from s at (depth + 1) ≡ skip_from s end (depth + 1)
  inner value skips at end depth e = skips at end e (depth + 1) ∙ rw (landed_some end (depth + 1) (omega arith)) refl

  -- at its `e` skipping has one open less
  outer : (at depth : ℕ) → byte_at s at ≡ 101 → skip_from s at (depth + 1) ≡ after_step (landed (at + 1) depth) (λ to d. skip_from s to d)
  outer at depth b = let k : depth + 1 - 1 ≡ depth = omega arith in rw (skip_step_lem at (depth + 1), b, k) refl

  pub string_scalar : (at start end : ℕ) → string_at s at ≡ Ok (text_of start end) → scalar_at s at ≡ Ok end
  unfolding scalar_at
  string_scalar at start end e = let w = string_whole_inv s at start end e in rw (ne_eqb (byte_at s at) 105 (omega arith), e) refl

  module _ (value : ℕ → Walk) (skips : Skips value) (f : Fault) where
    pub list_skips : (n at end : ℕ) → repeat (list_step value s) (Err f) n at tt ≡ Ok end → (depth : ℕ) → skip_from s at (depth + 1) ≡ after_step (landed end depth) (λ to d. skip_from s to d)
    unfolding repeat
    list_skips zero at end e depth = let z : ◌≡◌ {A = ℕ} 0 1 = cc in absurd (omega arith)
    list_skips (suc n) at end e depth = go (eqb (byte_at s at) 101) refl (value at) refl e (λ to q. list_skips n to end q depth)
      where
        go : (t : Bool) → eqb (byte_at s at) 101 ≡ t → (w : Walk) → value at ≡ w → after_step (cond t (done (Ok (at + 1))) (onward w tt)) (λ to y. repeat (list_step value s) (Err f) n to y) ≡ Ok end
            → ((to : ℕ) → repeat (list_step value s) (Err f) n to tt ≡ Ok end → skip_from s to (depth + 1) ≡ after_step (landed end depth) (λ to d. skip_from s to d))
            → skip_from s at (depth + 1) ≡ after_step (landed end depth) (λ to d. skip_from s to d)
        go true p w x e rec = let i : at + 1 ≡ end = cc in rw (← i) (outer at depth (eqb-true (byte_at s at) 101 p))
        go false p (Err g) x e rec = let z : ◌≡◌ {A = ℕ} 0 1 = cc in absurd (omega arith)
        go false p (Ok k) x e rec = inner value skips at k depth x ∙ rec k e

    module _ (p : Profile) where
      pub dictionary_skips : (n at : ℕ) (keys : List (List ℕ)) (end : ℕ) → repeat (dictionary_step p value s) (Err f) n at keys ≡ Ok end → (depth : ℕ) → skip_from s at (depth + 1) ≡ after_step (landed end depth) (λ to d. skip_from s to d)
      unfolding repeat
      dictionary_skips zero at keys end e depth = let z : ◌≡◌ {A = ℕ} 0 1 = cc in absurd (omega arith)
      dictionary_skips (suc n) at keys end e depth = go (eqb (byte_at s at) 101) refl (string_at s at) refl e (λ to ks q. dictionary_skips n to ks end q depth)
        where
          keyed_skips : (r : Option Cause) (start k : ℕ) (ks : List (List ℕ)) → string_at s at ≡ Ok (text_of start k) → (w : Walk) → value k ≡ w → after_step (keyed r at w ks) (λ to y. repeat (dictionary_step p value s) (Err f) n to y) ≡ Ok end
              → ((to : ℕ) (ks : List (List ℕ)) → repeat (dictionary_step p value s) (Err f) n to ks ≡ Ok end → skip_from s to (depth + 1) ≡ after_step (landed end depth) (λ to d. skip_from s to d))
              → skip_from s at (depth + 1) ≡ after_step (landed end depth) (λ to d. skip_from s to d)
          keyed_skips (Some c) start k ks x w y e rec = let z : ◌≡◌ {A = ℕ} 0 1 = cc in absurd (omega arith)
          keyed_skips None start k ks x (Err g) y e rec = let z : ◌≡◌ {A = ℕ} 0 1 = cc in absurd (omega arith)
          keyed_skips None start k ks x (Ok m) y e rec = inner (scalar_at s) scalar_skips at k depth (string_scalar at start k x) ∙ inner value skips k m depth y ∙ rec m ks e

          go : (t : Bool) → eqb (byte_at s at) 101 ≡ t → (w : Result Text Fault) → string_at s at ≡ w → after_step (cond t (done (Ok (at + 1))) (entry_step p value s at keys w)) (λ to y. repeat (dictionary_step p value s) (Err f) n to y) ≡ Ok end
              → ((to : ℕ) (ks : List (List ℕ)) → repeat (dictionary_step p value s) (Err f) n to ks ≡ Ok end → skip_from s to (depth + 1) ≡ after_step (landed end depth) (λ to d. skip_from s to d))
              → skip_from s at (depth + 1) ≡ after_step (landed end depth) (λ to d. skip_from s to d)
          go true q w x e rec = let i : at + 1 ≡ end = cc in rw (← i) (outer at depth (eqb-true (byte_at s at) 101 q))
          go false q (Err g) x e rec = let z : ◌≡◌ {A = ℕ} 0 1 = cc in absurd (omega arith)
          go false q (Ok t) x e rec = keyed_skips (key_fault p keys (slice s t.start t.end)) t.start t.end (slice s t.start t.end ∷ keys) x (value t.end) refl e rec

  pub value_skips : (p : Profile) (levels : ℕ) → Skips (value_at p levels s)
  unfolding value_at list_from dictionary_from
  value_skips p zero at end e depth = go (eqb (byte_at s at) 108) (eqb (byte_at s at) 100) e
    where
      go : (t u : Bool) → cond t (Err (fault Cause.Depth at)) (cond u (Err (fault Cause.Depth at)) (scalar_at s at)) ≡ Ok end → skip_from s at depth ≡ after_step (landed end depth) (λ to d. skip_from s to d)
      go true u e = let z : ◌≡◌ {A = ℕ} 0 1 = cc in absurd (omega arith)
      go false true e = let z : ◌≡◌ {A = ℕ} 0 1 = cc in absurd (omega arith)
      go false false e = scalar_skips at end e depth
  value_skips p (suc levels) at end e depth = go (eqb (byte_at s at) 108) refl (eqb (byte_at s at) 100) refl (value_skips p levels) e
    where
      in_list : Skips (value_at p levels s) → (to : ℕ) → list_from (value_at p levels s) s to ≡ Ok end → skip_from s to (depth + 1) ≡ after_step (landed end depth) (λ to d. skip_from s to d)
      in_list h to e = list_skips (value_at p levels s) h (fault Cause.Syntax to) (suc (length s - to)) to end e depth

      go : (t : Bool) → eqb (byte_at s at) 108 ≡ t → (u : Bool) → eqb (byte_at s at) 100 ≡ u → Skips (value_at p levels s) → cond t (list_from (value_at p levels s) s (at + 1)) (cond u (dictionary_from p (value_at p levels s) s (at + 1) []) (scalar_at s at)) ≡ Ok end → skip_from s at depth ≡ after_step (landed end depth) (λ to d. skip_from s to d)
      go true b u c h e = sym (skip_open at depth (opens_list (byte_at s at) b)) ∙ in_list h (at + 1) e
      go false b true c h e = sym (skip_open at depth (opens_dictionary (byte_at s at) c)) ∙ dictionary_skips (value_at p levels s) h (fault Cause.Syntax (at + 1)) p (suc (length s - (at + 1))) (at + 1) [] end e depth
      go false b false c h e = scalar_skips at end e depth
