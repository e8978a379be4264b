-- A record that is taken has a byte at least and stands within the strip; and a call, or the end, is the same before a call
-- and after.
-- Assumes nothing.
use Prim.Native.Nat.{ℕ, ◌+◌, ◌≤◌, ◌<◌}
use mathlib.Core.Path.{◌≡◌, refl, sym, subst}
use mathlib.Core.Bool.{Bool, true, false, cond}
use mathlib.Core.List.{List}
use native.Mathlib.Omega.{arith}
use borrow.Author.Tests.{eqb-true, leb-true}
use lib.Dec.{eqb, leb, ltb}
use lib.ListN.{length}
use Rattle.std.specs.declared.option.Option.{Option}
use Rattle.std.specs.declared.option.Option.TheVariants.{None, Some}
use Rattle.std.specs.declared.result.Result.TheVariants.{Ok, Err}
use Rattle.octets.specs.Bytes.{byte_at}
use Rattle.strip.specs.declared.record.Record.{Record}
use Rattle.strip.specs.declared.record.Decoded.{Decoded}
use Rattle.strip.specs.Record.{body_length, may_stand, watch_of, body_at, Found, FoundBy, fault_at, placed_at, end_at, whole_record_at, longest_strip, record_at}
use Rattle.strip.proofs.records.RecordLaws.{at_watch}
use Rattle.strip.proofs.KindNamed.{cases}

-- ---- where the next record starts
abbrev pub Forward : List ℕ → ℕ → Decoded → Type 0
Forward s at d = (at < d.offset) × (d.offset ≤ length s)

module _ (s : List ℕ) (at : ℕ) where
  abbrev Onward : Found → Type 0
  Onward found = FoundBy (Forward s at) found

  placed_forward : (o : Option Record) (next : ℕ) → at < next → next ≤ length s → Onward (placed_at o at next)
  placed_forward None next l h = tt
  placed_forward (Some r) next l h = (l, h)

  end_forward : Onward (end_at at)
  unfolding end_at
  end_forward = cases Onward (eqb at 0) (λ e. tt) (λ e. tt)

  whole_forward : (called : Bool) → Onward (whole_record_at s at called)
  unfolding whole_record_at
  whole_forward called =
      let kind = byte_at s at in
      cases Onward (may_stand (eqb at 0) called kind)
      (λ m. cases Onward (leb (at + 1 + body_length kind) (length s))
      (λ e. placed_forward (body_at kind s (at + 1)) (at + 1 + body_length kind) (omega arith) (leb-true (at + 1 + body_length kind) (length s) e))
      (λ e. tt))
      (λ m. tt)

  pub forward : (called : Bool) → Onward (record_at s at called)
  unfolding record_at
  forward called =
      cases Onward (leb (length s) longest_strip) (λ e. cases Onward (leb (length s) at) (λ f. end_forward) (λ f. whole_forward called)) (λ e. tt)

-- ---- met again
abbrev pub IsCall : Record → Type 0
IsCall (Record.Limits d u) = ⊥
IsCall (Record.Watch w) = ⊥
IsCall (Record.Call c) = Unit {0}

abbrev pub Meets : Found → Type 0
Meets (Ok (Some d)) = IsCall d.found
Meets (Ok None) = Unit {0}
Meets (Err at) = ⊥

stands_again : (first : Bool) (kind : ℕ) → eqb kind 7 ≡ false → may_stand first true kind ≡ may_stand first false kind
unfolding may_stand
stands_again first kind e = rw e refl

module _ (s : List ℕ) (at : ℕ) where
  abbrev Missed : Found → Type 0
  Missed found = Meets found → ⊥

  watch_missed : (next : ℕ) → Missed (placed_at (watch_of s (at + 1)) at next)
  unfolding watch_of
  watch_missed next = cases (λ o. Missed (placed_at o at next)) (ltb 1 (byte_at s (at + 1 + 4))) (λ e m. m) (λ e m. m)

  -- a watch record is none of both
  missed : (called : Bool) → byte_at s at ≡ 7 → Missed (whole_record_at s at called)
  unfolding whole_record_at
  missed called k =
      let kind = byte_at s at in
      let next = at + 1 + body_length kind in
      let n0 : kind ≡ 0 → ⊥ = λ e. let z : ⊥ = omega (arith, k, e) in z in
      let n6 : kind ≡ 6 → ⊥ = λ e. let z : ⊥ = omega (arith, k, e) in z in
      let body : watch_of s (at + 1) ≡ body_at kind s (at + 1) = sym (at_watch kind s (at + 1) n0 n6 k) in
      cases Missed (may_stand (eqb at 0) called kind)
      (λ m. cases Missed (leb next (length s)) (λ e. subst (λ r. Missed (placed_at r at next)) body (watch_missed next)) (λ e m. m))
      (λ m k. k)

  other : may_stand (eqb at 0) true (byte_at s at) ≡ may_stand (eqb at 0) false (byte_at s at) → whole_record_at s at true ≡ whole_record_at s at false
  unfolding whole_record_at
  other e = rw e refl

  whole_again : Meets (whole_record_at s at false) → whole_record_at s at true ≡ whole_record_at s at false
  whole_again m = by_test (eqb (byte_at s at) 7) refl
    where
      by_test : (t : Bool) → eqb (byte_at s at) 7 ≡ t → whole_record_at s at true ≡ whole_record_at s at false
      by_test true e = absurd (missed false (eqb-true (byte_at s at) 7 e) m)
      by_test false e = other (stands_again (eqb at 0) (byte_at s at) e)

  pub again : Meets (record_at s at false) → record_at s at true ≡ record_at s at false
  unfolding record_at
  again = go (leb (length s) longest_strip) (leb (length s) at)
    where
      go : (a b : Bool) → Meets (cond a (cond b (end_at at) (whole_record_at s at false)) (fault_at longest_strip))
          → cond a (cond b (end_at at) (whole_record_at s at true)) (fault_at longest_strip) ≡ cond a (cond b (end_at at) (whole_record_at s at false)) (fault_at longest_strip)
      go true true m = refl
      go true false m = whole_again m
      go false b m = absurd m
