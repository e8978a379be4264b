-- A record is of the kind that its first byte says.
-- Assumes nothing.
use Prim.Native.Nat.{ℕ, ◌+◌, ◌≤◌, ◌<◌}
use mathlib.Core.Path.{◌≡◌, refl, sym}
use mathlib.Core.Bool.{Bool, true, false, cond, not, false≢true}
use mathlib.Core.List.{List}
use native.Mathlib.Omega.{arith}
use borrow.Author.Tests.{eqb-true, eqb-false, ltb-true}
use lib.Dec.{eqb, leb, ltb}
use lib.ListN.{length}
use Rattle.std.specs.Prelude.{IfSome}
use Rattle.std.specs.declared.option.Option.{Option}
use Rattle.std.specs.declared.option.Option.TheVariants.{None, Some}
use Rattle.octets.specs.Bytes.{byte_at}
use Rattle.strip.specs.declared.record.Record.{Record}
use Rattle.strip.specs.Record.{body_length, may_stand, call_kind, call_of, watch_of, body_at, Found, FoundBy, placed_at, end_at, whole_record_at, longest_strip, record_at}
use Rattle.strip.specs.Demands.{HasKind, KindNamed}

-- a test is true or false, and the case has the equation
pub cases : {A : Type 0} (P : A → Type 0) {x y : A} (b : Bool) → (b ≡ true → P x) → (b ≡ false → P y) → P (cond b x y)
cases P true f g = f refl
cases P false f g = g refl

-- ---- the record of a kind
-- a kind that may stand, and is none of 0, 6 and 7
allowed : (first called : Bool) (kind : ℕ) → may_stand first called kind ≡ true → (eqb kind 0 ≡ false) → (eqb kind 7 ≡ false) → kind < 7
unfolding may_stand
allowed first called kind = go first (eqb kind 0) (eqb kind 7)
  where
    go : (f a b : Bool) → cond f a (cond a false (cond b (not called) (ltb kind 7))) ≡ true → a ≡ false → b ≡ false → kind < 7
    go true true b e p q = absurd (false≢true (sym p))
    go true false b e p q = absurd (false≢true e)
    go false true b e p q = absurd (false≢true e)
    go false false true e p q = absurd (false≢true (sym q))
    go false false false e p q = ltb-true kind 7 e

above : (kind : ℕ) → (kind ≡ 0 → ⊥) → (kind ≡ 1 → ⊥) → (kind ≡ 2 → ⊥) → 3 ≤ kind
above kind n0 n1 n2 = omega (arith, n0, n1, n2)

fifth : (kind : ℕ) → 3 ≤ kind → kind < 7 → (kind ≡ 3 → ⊥) → (kind ≡ 4 → ⊥) → (kind ≡ 6 → ⊥) → kind ≡ 5
fifth kind l h n3 n4 n6 = omega (arith, l, h, n3, n4, n6)

raised : (kind : ℕ) → kind < 7 → (kind ≡ 0 → ⊥) → (kind ≡ 1 → ⊥) → (kind ≡ 2 → ⊥) → (kind ≡ 3 → ⊥) → (kind ≡ 4 → ⊥) → (kind ≡ 6 → ⊥) → kind ≡ 5
raised kind h n0 n1 n2 n3 n4 n6 = fifth kind (above kind n0 n1 n2) h n3 n4 n6

module _ (s : List ℕ) (at : ℕ) (kind : ℕ) where
  call_kind_lem : kind < 7 → eqb kind 0 ≡ false → eqb kind 6 ≡ false → kind ≡ call_kind (call_of kind s at)
  unfolding call_of
  call_kind_lem h a b =
      cases (λ c. kind ≡ call_kind c) (eqb kind 1) (λ e. eqb-true kind 1 e)
      (λ n1. cases (λ c. kind ≡ call_kind c) (eqb kind 2) (λ e. eqb-true kind 2 e)
      (λ n2. cases (λ c. kind ≡ call_kind c) (eqb kind 3) (λ e. eqb-true kind 3 e)
      (λ n3. cases (λ c. kind ≡ call_kind c) (eqb kind 4) (λ e. eqb-true kind 4 e)
      (λ n4. raised kind h (eqb-false kind 0 a) (eqb-false kind 1 n1) (eqb-false kind 2 n2) (eqb-false kind 3 n3) (eqb-false kind 4 n4) (eqb-false kind 6 b)))))

  watch_kind : kind ≡ 7 → IfSome (watch_of s at) (λ r. HasKind r kind)
  unfolding watch_of
  watch_kind e = cases (λ o. IfSome o (λ r. HasKind r kind)) (ltb 1 (byte_at s (at + 4))) (λ t. tt) (λ t. e)

  body_kind : (first called : Bool) → may_stand first called kind ≡ true → IfSome (body_at kind s at) (λ r. HasKind r kind)
  unfolding body_at
  body_kind first called m =
      cases (λ o. IfSome o (λ r. HasKind r kind)) (eqb kind 0) (λ e. eqb-true kind 0 e)
      (λ n0. cases (λ o. IfSome o (λ r. HasKind r kind)) (eqb kind 6) (λ e. eqb-true kind 6 e)
      (λ n6. cases (λ o. IfSome o (λ r. HasKind r kind)) (eqb kind 7) (λ e. watch_kind (eqb-true kind 7 e))
      (λ n7. call_kind_lem (allowed first called kind m n0 n7) n0 n6)))

-- ---- what stands at an offset
abbrev Named : ℕ → Found → Type 0
Named k found = FoundBy (λ d. HasKind d.found k) found

placed_kind : (o : Option Record) (at next k : ℕ) → IfSome o (λ r. HasKind r k) → Named k (placed_at o at next)
placed_kind None at next k h = tt
placed_kind (Some r) at next k h = h

end_kind : (at k : ℕ) → Named k (end_at at)
unfolding end_at
end_kind at k = cases (Named k) (eqb at 0) (λ e. tt) (λ e. tt)

whole_kind : (s : List ℕ) (at : ℕ) (called : Bool) → Named (byte_at s at) (whole_record_at s at called)
unfolding whole_record_at
whole_kind s at called =
    let kind = byte_at s at in
    cases (Named kind) (may_stand (eqb at 0) called kind)
    (λ m. cases (Named kind) (leb (at + 1 + body_length kind) (length s))
    (λ e. placed_kind (body_at kind s (at + 1)) at (at + 1 + body_length kind) kind (body_kind s (at + 1) kind (eqb at 0) called m))
    (λ e. tt))
    (λ m. tt)

pub kind_named : KindNamed
unfolding record_at
kind_named s at called =
    let P : Found → Type 0 = Named (byte_at s at) in
    cases P (leb (length s) longest_strip) (λ e. cases P (leb (length s) at) (λ f. end_kind at (byte_at s at)) (λ f. whole_kind s at called)) (λ e. tt)
