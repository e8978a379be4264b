-- Laws of a key among the earlier ones of its dictionary.
-- Assumes nothing.
use Prim.Native.Nat.{ℕ}
use mathlib.Core.Path.{◌≡◌, refl, sym, ap, ◌∙◌}
use mathlib.Core.Bool.{Bool, true, false, ◌&&◌, ◌||◌, or-true}
use mathlib.Core.List.{List, [], ◌∷◌}
use Rattle.octets.specs.Bytes.{same, less}
use Rattle.bencode.specs.Key.{is_used, is_above}
use Rattle.octets.proofs.sequences.Order.{clash, same_eq, same_refl, less_irrefl, less_trans, less_total, less_asym}

-- ---- keys
-- no key is above g
abbrev pub Under : List ℕ → List (List ℕ) → Type 0
Under g [] = Unit {0}
Under g (k ∷ keys) = (less g k ≡ false) × Under g keys

-- above the greatest is above all
pub above_all : (g key : List ℕ) (keys : List (List ℕ)) → Under g keys → less g key ≡ true → is_above key keys ≡ true
unfolding is_above
above_all g key [] u p = refl
above_all g key (k ∷ keys) u p = rw (one (less k g) refl, above_all g key keys u.1 p) refl
  where
    one : (t : Bool) → less k g ≡ t → less k key ≡ true
    one true q = less_trans k g key q p
    one false q = ap (λ (l : List ℕ). less l key) (less_total k g q u.0) ∙ p

-- above all is none of them
pub above_unused : (key : List ℕ) (keys : List (List ℕ)) → is_above key keys ≡ true → is_used key keys ≡ false
unfolding is_above is_used
above_unused key [] p = refl
above_unused key (k ∷ keys) p = go (less k key) refl (same k key) refl (is_above key keys) refl p (λ q. above_unused key keys q)
  where
    go : (t : Bool) → less k key ≡ t → (u : Bool) → same k key ≡ u → (v : Bool) → is_above key keys ≡ v → t && v ≡ true → (is_above key keys ≡ true → is_used key keys ≡ false) → u || is_used key keys ≡ false
    go false a u b v c p rec = clash false p refl
    go true a u b false c p rec = clash false p refl
    go true a true b true c p rec = clash (less key key) (sym (ap (λ (l : List ℕ). less l key) (same_eq k key b)) ∙ a) (less_irrefl key)
    go true a false b true c p rec = rec c

-- not above one of them is not above all
pub not_above : (g key : List ℕ) (keys : List (List ℕ)) → is_used g keys ≡ true → less g key ≡ false → is_above key keys ≡ false
unfolding is_above is_used
not_above g key [] u p = clash false u refl
not_above g key (k ∷ keys) u p = go (same k g) refl (less k key) refl u (λ q. not_above g key keys q p)
  where
    go : (t : Bool) → same k g ≡ t → (v : Bool) → less k key ≡ v → t || is_used g keys ≡ true → (is_used g keys ≡ true → is_above key keys ≡ false) → v && is_above key keys ≡ false
    go t a false b u rec = refl
    go true a true b u rec = clash (less g key) (sym (ap (λ (l : List ℕ). less l key) (same_eq k g a)) ∙ b) p
    go false a true b u rec = rec u

-- a key above all is the greatest with them
pub under_above : (key : List ℕ) (keys : List (List ℕ)) → is_above key keys ≡ true → Under key keys
unfolding is_above
under_above key [] p = tt
under_above key (k ∷ keys) p = go (less k key) refl (is_above key keys) refl p (λ q. under_above key keys q)
  where
    go : (t : Bool) → less k key ≡ t → (v : Bool) → is_above key keys ≡ v → t && v ≡ true → (is_above key keys ≡ true → Under key keys) → Under key (k ∷ keys)
    go false a v b p rec = clash false p refl
    go true a false b p rec = clash false p refl
    go true a true b p rec = (less_asym k key a, rec b)

pub used_head : (key : List ℕ) (keys : List (List ℕ)) → is_used key (key ∷ keys) ≡ true
unfolding is_used
used_head key keys = rw (same_refl key) refl

pub used_tail : (g k : List ℕ) (keys : List (List ℕ)) → is_used g keys ≡ true → is_used g (k ∷ keys) ≡ true
unfolding is_used
used_tail g k keys p = rw p (or-true (same k g))
