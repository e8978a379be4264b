-- What sorting has to know of the key rule, and no more: these four laws are all that a change of `key_fault` touches here.
-- A key that may stand alone is one that the loose profile allows with no key before it.
-- Assumes nothing.
use Prim.Native.Nat.{ℕ}
use mathlib.Core.Path.{◌≡◌, refl}
use mathlib.Core.Bool.{Bool, true, false, cond, ◌&&◌}
use mathlib.Core.List.{List, []}
use native.Mathlib.Omega.{arith}
use Rattle.bencode.specs.declared.profile.Profile.{Profile}
use Rattle.bencode.specs.Utf8.{is_text}
use Rattle.bencode.specs.Key.{is_used, is_above, key_fault}
use Rattle.octets.proofs.sequences.Order.{clash}
use Rattle.bencode.proofs.walking.KeyOrder.{above_unused}
use Rattle.std.specs.Prelude.{Option, Some, None}
use Rattle.bencode.specs.declared.fault.Cause.{Cause}

-- a key that may stand alone
abbrev pub Alone : List ℕ → Type 0
Alone key = key_fault Profile.Loose [] key ≡ None

module _ (keys : List (List ℕ)) (key : List ℕ) where
  pub loose_alone : key_fault Profile.Loose keys key ≡ None → Alone key
  unfolding key_fault is_used
  loose_alone e = go (is_text key) (is_used key keys) e
    where
      go : (w t : Bool) → ◌≡◌ {A = Option Cause} (cond w (cond t (Some Cause.RepeatedKey) None) (Some Cause.IllFormedKey)) None → ◌≡◌ {A = Option Cause} (cond w None (Some Cause.IllFormedKey)) None
      go true t e = refl
      go false t e = let z : ◌≡◌ {A = ℕ} 0 1 = cc in absurd (omega arith)

  pub loose_unused : key_fault Profile.Loose keys key ≡ None → is_used key keys ≡ false
  unfolding key_fault
  loose_unused e = go (is_text key) (is_used key keys) e
    where
      go : (w t : Bool) → ◌≡◌ {A = Option Cause} (cond w (cond t (Some Cause.RepeatedKey) None) (Some Cause.IllFormedKey)) None → t ≡ false
      go true true e = let z : ◌≡◌ {A = ℕ} 0 1 = cc in absurd (omega arith)
      go true false e = refl
      go false t e = let z : ◌≡◌ {A = ℕ} 0 1 = cc in absurd (omega arith)

  pub strict_above : key_fault Profile.Strict keys key ≡ None → is_above key keys ≡ true
  unfolding key_fault
  strict_above e = go (is_text key) (is_used key keys) (is_above key keys) e
    where
      go : (w t u : Bool) → ◌≡◌ {A = Option Cause} (cond w (cond t (Some Cause.RepeatedKey) (cond u None (Some Cause.UnsortedKey))) (Some Cause.IllFormedKey)) None → u ≡ true
      go true true u e = let z : ◌≡◌ {A = ℕ} 0 1 = cc in absurd (omega arith)
      go true false true e = refl
      go true false false e = let z : ◌≡◌ {A = ℕ} 0 1 = cc in absurd (omega arith)
      go false t u e = let z : ◌≡◌ {A = ℕ} 0 1 = cc in absurd (omega arith)

  pub above_strict : Alone key → is_above key keys ≡ true → key_fault Profile.Strict keys key ≡ None
  unfolding key_fault is_used
  above_strict ok e = go (is_text key) ok (is_used key keys) (above_unused key keys e) (is_above key keys) e
    where
      go : (w : Bool) → ◌≡◌ {A = Option Cause} (cond w None (Some Cause.IllFormedKey)) None → (t : Bool) → t ≡ false → (u : Bool) → u ≡ true → ◌≡◌ {A = Option Cause} (cond w (cond t (Some Cause.RepeatedKey) (cond u None (Some Cause.UnsortedKey))) (Some Cause.IllFormedKey)) None
      go true o t p u q = rw (p, q) refl
      go false o t p u q = let z : ◌≡◌ {A = ℕ} 0 1 = cc in absurd (omega arith)

-- both halves of a conjunction
pub both_true : (t u : Bool) → t && u ≡ true → (t ≡ true) × (u ≡ true)
both_true true true e = (refl, refl)
both_true true false e = clash false e refl
both_true false u e = clash false e refl
