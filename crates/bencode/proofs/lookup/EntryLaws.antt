-- Laws of the search for a key in a dictionary: one for each way through it.
-- Assumes nothing.
use Prim.Native.Nat.{ℕ, zero, suc, ◌-◌}
use mathlib.Core.Path.{◌≡◌, refl}
use mathlib.Core.Bool.{Bool, true, false, cond}
use mathlib.Core.List.{List}
use native.Mathlib.Omega.{arith}
use lib.ListN.{length}
use Rattle.bencode.specs.declared.fault.Fault.{Fault}
use Rattle.bencode.specs.declared.strings.Text.{Text}
use Rattle.octets.specs.Bytes.{slice, same}
use Rattle.bencode.specs.Loop.{next, done, after_step, repeat, Past, Onward}
use Rattle.bencode.specs.Strings.{string_at, text_of}
use Rattle.bencode.specs.Skip.{skip_value}
use Rattle.bencode.specs.Entry.{matched, find_step, entry_at}
use Rattle.bencode.proofs.loops.LoopLaws.{repeat_step}
use Rattle.bencode.proofs.walking.Ends.{string_whole_inv}
use Rattle.bencode.proofs.lookup.SkipLaws.{skip_range}
use Rattle.std.specs.Prelude.{Result, Ok, Err, Some, None}

module _ (s key : List ℕ) where
  find_onward : Onward s (find_step s key)
  find_onward at x to y e = go (string_at s at) refl e
    where
      past : (start end : ℕ) → string_at s at ≡ Ok (text_of start end) → (t : Bool) → cond t (done (Some end)) (next (skip_value s end) x) ≡ next to y → Past s at to
      past start end q true e = let z : ◌≡◌ {A = ℕ} 0 1 = cc in absurd (omega arith)
      past start end q false e =
          let i : skip_value s end ≡ to = cc in
          let w = string_whole_inv s at start end q in
          let r = skip_range s end 0 w.within in
          omega arith

      go : (w : Result Text Fault) → string_at s at ≡ w → matched s key x w ≡ next to y → Past s at to
      go (Err f) q e = let z : ◌≡◌ {A = ℕ} 0 1 = cc in absurd (omega arith)
      go (Ok t) q e = past t.start t.end q (same (slice s t.start t.end) key) e

  find_step_lem : (at : ℕ) → entry_at s key at ≡ after_step (find_step s key at tt) (λ to y. entry_at s key to)
  unfolding entry_at
  find_step_lem at = repeat_step s (find_step s key) find_onward (λ (k : ℕ). None) at tt

  module _ (at : ℕ) where
    pub find_none : (f : Fault) → string_at s at ≡ Err f → None ≡ entry_at s key at
    find_none f e = rw (find_step_lem at, e) refl

    module _ (start end : ℕ) (e : string_at s at ≡ Ok (text_of start end)) where
      pub find_here : same (slice s start end) key ≡ true → Some end ≡ entry_at s key at
      find_here h = rw (find_step_lem at, e, h) refl

      pub find_more : same (slice s start end) key ≡ false → entry_at s key (skip_value s end) ≡ entry_at s key at
      find_more h = rw (find_step_lem at, e, h) refl

  -- a value that is found stands after the search's start, in the payload
  found_past : (v n at : ℕ) (x : Unit {0}) → repeat (find_step s key) None n at x ≡ Some v → Past s at v
  unfolding repeat
  found_past v zero at x e = let z : ◌≡◌ {A = ℕ} 0 1 = cc in absurd (omega arith)
  found_past v (suc n) at x e = go (string_at s at) refl e (λ to q. found_past v n to x q)
    where
      compared : (start end : ℕ) → string_at s at ≡ Ok (text_of start end) → (t : Bool) → after_step (cond t (done (Some end)) (next (skip_value s end) x)) (λ to y. repeat (find_step s key) None n to y) ≡ Some v
          → ((to : ℕ) → repeat (find_step s key) None n to x ≡ Some v → Past s to v) → Past s at v
      compared start end q true e rec = let i : end ≡ v = cc in let w = string_whole_inv s at start end q in omega arith
      compared start end q false e rec =
          let w = string_whole_inv s at start end q in
          let r = skip_range s end 0 w.within in
          let h = rec (skip_value s end) e in
          omega arith

      go : (w : Result Text Fault) → string_at s at ≡ w → after_step (matched s key x w) (λ to y. repeat (find_step s key) None n to y) ≡ Some v → ((to : ℕ) → repeat (find_step s key) None n to x ≡ Some v → Past s to v) → Past s at v
      go (Err f) q e rec = let z : ◌≡◌ {A = ℕ} 0 1 = cc in absurd (omega arith)
      go (Ok t) q e rec = compared t.start t.end q (same (slice s t.start t.end) key) e rec

  pub find_past : (at v : ℕ) → entry_at s key at ≡ Some v → Past s at v
  unfolding entry_at
  find_past at v e = found_past v (suc (length s - at)) at tt e
