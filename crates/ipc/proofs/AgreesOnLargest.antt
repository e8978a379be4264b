-- The version that two ranges agree on is in both, and none is larger.
-- Assumes nothing.
use Prim.Native.Nat.{ℕ, ◌≤◌, min, max}
use mathlib.Core.Path.{◌≡◌, refl}
use mathlib.Core.Bool.{Bool, true, false, cond}
use native.Mathlib.Omega.{arith}
use borrow.Author.Tests.{leb-true, leb-false}
use lib.Dec.{leb}
use lib.IntN.{pos}
use Rattle.ipc.specs.Versions.{range_of, agreed, agreed_version, IsRange, InBoth, AgreesOnLargest}
use Rattle.ipc.proofs.frames.VersionLaws.{range_made, range_none}
use Rattle.ipc.specs.declared.versions.Versions.{Versions}
use Rattle.std.specs.Prelude.{Option, Some, None}
use Rattle.std.specs.Option.{unwrap_or}

module _ (low high low2 high2 : ℕ) where
  -- what is said of an answer
  abbrev Agrees : ℕ → Type 0
  Agrees a = ((a ≡ 0 → ⊥) → InBoth low high low2 high2 a) × ((n : ℕ) → InBoth low high low2 high2 n → n ≤ a) × (a ≡ 0 → (n : ℕ) → InBoth low high low2 high2 n → ⊥) × (((n : ℕ) → InBoth low high low2 high2 n → ⊥) → a ≡ 0)

  none_agrees : ((n : ℕ) → InBoth low high low2 high2 n → ⊥) → Agrees 0
  none_agrees h = (λ z. absurd (z refl), λ n b. absurd (h n b), λ z. h, λ k. refl)

  common_agrees : IsRange low high → IsRange low2 high2 → (t : Bool) → leb (max low low2) (min high high2) ≡ t → Agrees (unwrap_or (cond t (Some (min high high2)) None) 0)
  common_agrees r s true e =
      let h : max low low2 ≤ min high high2 = leb-true (max low low2) (min high high2) e in
      let both : InBoth low high low2 high2 (min high high2) = (record { range = r; above = omega arith; below = omega arith }, record { range = s; above = omega arith; below = omega arith }) in
      (λ z. both, λ n b. omega (arith, b.0.below, b.1.below), λ z. absurd (omega (arith, r.positive)), λ k. absurd (k (min high high2) both))
  common_agrees r s false e =
      let h = leb-false (max low low2) (min high high2) e in
      none_agrees (λ n b. omega (arith, h, b.0.above, b.0.below, b.1.above, b.1.below))

  ranges_agree : (x y : Option Versions) → range_of (pos low) (pos high) ≡ x → range_of (pos low2) (pos high2) ≡ y → Agrees (unwrap_or (agreed x y) 0)
  ranges_agree (Some v) (Some w) e f =
      let r = range_made low high v e in
      let s = range_made low2 high2 w f in
      rw (r.1, s.1) (common_agrees r.0 s.0 (leb (max low low2) (min high high2)) refl)
  ranges_agree (Some v) None e f = none_agrees (λ n b. range_none low2 high2 f b.1.range)
  ranges_agree None y e f = none_agrees (λ n b. range_none low high e b.0.range)

pub agrees_on_largest : AgreesOnLargest
unfolding agreed_version
agrees_on_largest low high low2 high2 =
    let a = ranges_agree low high low2 high2 (range_of (pos low) (pos high)) (range_of (pos low2) (pos high2)) refl refl in
    (a.0, a.1, (a.2, a.3))
