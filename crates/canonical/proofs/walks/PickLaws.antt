-- Laws of an entry that was picked: what the comparisons of keys say of it.
-- Assumes nothing.
use Prim.Native.Nat.{ℕ}
use mathlib.Core.Path.{◌≡◌, refl, subst}
use mathlib.Core.Bool.{Bool, true, false}
use mathlib.Core.List.{List}
use Rattle.std.specs.Prelude.{Option, None, Some, MatchOption}
use Rattle.octets.specs.Bytes.{less}
use Rattle.canonical.specs.declared.select.Pick.{Pick}
use Rattle.canonical.specs.SortWalk.{Bound, is_past, key_of, Stands, bound_of, Inside, is_below, preferred_at}

-- what a closure told of an option's value
pub each_option : {T : Type 0} {P Q : Type 0} {R S : T → Type 0} (o : Option T) → MatchOption o P R → (P → Q) → ((x : T) → R x → S x) → MatchOption o Q S
each_option None h none some = none h
each_option (Some x) h none some = some x h

module _ (s : List ℕ) (o : Option Pick) (p : Pick) (r : Bool) where
  -- is a key above that of the last entry written, if there is one
  pub past_told : MatchOption o (r ≡ true) (λ l. r ≡ less (key_of s l) (key_of s p)) → r ≡ is_past (bound_of s o) (key_of s p)
  past_told = go o
    where
      go : (q : Option Pick) → MatchOption q (r ≡ true) (λ l. r ≡ less (key_of s l) (key_of s p)) → r ≡ is_past (bound_of s q) (key_of s p)
      go None h = h
      go (Some l) h = h

  -- is a key below that of the best entry, if there is one
  pub below_told : MatchOption o (r ≡ true) (λ b. r ≡ less (key_of s p) (key_of s b)) → r ≡ is_below s o (key_of s p)
  below_told = go o
    where
      go : (q : Option Pick) → MatchOption q (r ≡ true) (λ b. r ≡ less (key_of s p) (key_of s b)) → r ≡ is_below s q (key_of s p)
      go None h = h
      go (Some b) h = h

-- the best after an entry, by the two tests
module _ (s : List ℕ) (b : Bound) (best : Option Pick) (p : Pick) where
  pub preferred_new : is_past b (key_of s p) ≡ true → is_below s best (key_of s p) ≡ true → Some p ≡ preferred_at s b best p
  preferred_new t u = rw (t, u) refl

  pub preferred_old : is_past b (key_of s p) ≡ true → is_below s best (key_of s p) ≡ false → best ≡ preferred_at s b best p
  preferred_old t u = rw (t, u) refl

  pub preferred_written : is_past b (key_of s p) ≡ false → best ≡ preferred_at s b best p
  preferred_written t = rw t refl

  -- the best after an entry stands in the payload where both do
  pub preferred_inside : Stands s p → Inside s best → Inside s (preferred_at s b best p)
  preferred_inside h i = go (is_past b (key_of s p)) refl (is_below s best (key_of s p)) refl
    where
      go : (t : Bool) → is_past b (key_of s p) ≡ t → (u : Bool) → is_below s best (key_of s p) ≡ u → Inside s (preferred_at s b best p)
      go true q true r = subst (λ (x : Option Pick). Inside s x) (preferred_new q r) h
      go true q false r = subst (λ (x : Option Pick). Inside s x) (preferred_old q r) i
      go false q u r = subst (λ (x : Option Pick). Inside s x) (preferred_written q) i

-- where an entry was picked, it stands in the payload
pub stands_picked : (s : List ℕ) (o : Option Pick) (p : Pick) → o ≡ Some p → Inside s o → Stands s p
stands_picked s o p e h = subst (λ (x : Option Pick). Inside s x) e h
