-- Laws of numbers from 1 to another, and of the tags and torrent IDs that they make.
-- Assumes nothing.
use Prim.Native.Nat.{ℕ, ◌^◌, ◌≤◌, ◌<◌}
use mathlib.Core.Path.{◌≡◌, refl, sym, ap, subst, ◌∙◌}
use mathlib.Core.Bool.{Bool, true, false, cond, ◌&&◌}
use native.Mathlib.Omega.{arith}
use borrow.Author.Tests.{leb-true}
use lib.Dec.{T}
use lib.IntN.{ℤ, pos, negsuc, nat_abs}
use lib.Signed.{lt_z, le_z}
use mir.Syntax.{w64}
use mir.Val.{SFits, to_z}
use Rattle.std.specs.Prelude.{Option, Some, None}
use Rattle.std.specs.Option.{option_map}
use Rattle.bencode.specs.Integers.{within}
use Rattle.bencode.proofs.scalars.Ranges.{machine, natural_machine, same, too_low, too_high, in_range_lem}
use Rattle.ipc.specs.declared.ids.Tag.{Tag}
use Rattle.ipc.specs.declared.ids.TorrentId.{TorrentId}
use Rattle.ipc.specs.Ids.{number_in, largest_tag, largest_id, tag_of, torrent_id_of}

-- ---- each way through the code, by its tests
module _ (largest : ℕ) (z : ℤ) (f : SFits w64 z) where
  pub number_low : lt_z (machine z) (pos 1) ≡ true → None ≡ number_in largest z
  unfolding number_in
  number_low h = rw (too_low z f 1 largest h) refl

  module _ (small : largest < 2 ^ 63) where
    from_machine : (t : Bool) → lt_z (to_z w64 largest) (machine z) ≡ t → lt_z (pos largest) (machine z) ≡ t
    from_machine t h = ap (λ (x : ℤ). lt_z x (machine z)) (sym (natural_machine largest small)) ∙ h

    pub number_high : lt_z (to_z w64 largest) (machine z) ≡ true → None ≡ number_in largest z
    unfolding number_in
    number_high h = rw (too_high z f 1 largest (from_machine true h)) refl

    pub number_good : lt_z (machine z) (pos 1) ≡ false → lt_z (to_z w64 largest) (machine z) ≡ false → Some (nat_abs (machine z)) ≡ number_in largest z
    unfolding number_in
    number_good l h = rw (same z f, in_range_lem z f 1 largest l (from_machine false h)) refl

-- the ways, for the check to choose from
pub ruleset numbers = (number_low, number_high, number_good)

-- ---- what an answer says
-- a number that is in the range
pub record Numbered (largest : ℕ) (z : ℤ) (n : ℕ) : Type 0 where
  pub is : z ≡ pos n
  pub above : 1 ≤ n
  pub below : n ≤ largest

pub number_some : (largest : ℕ) (z : ℤ) (n : ℕ) → number_in largest z ≡ Some n → Numbered largest z n
unfolding number_in
number_some largest z n e = go z (within 1 largest z) refl e
  where
    sound : (z : ℤ) (n : ℕ) → le_z (pos 1) z ≡ true → le_z z (pos largest) ≡ true → nat_abs z ≡ n → Numbered largest z n
    sound (pos k) n l h q = record { is = ap pos q; above = omega (arith, leb-true 1 k l, q); below = omega (arith, leb-true k largest h, q) }
    sound (negsuc k) n l h q = absurd (subst T (sym l) tt)

    both : (t u : Bool) → (t && u) ≡ true → (t ≡ true) × (u ≡ true)
    both true true h = (refl, refl)
    both true false h = absurd (subst T (sym h) tt)
    both false u h = absurd (subst T (sym h) tt)

    go : (z : ℤ) (t : Bool) → within 1 largest z ≡ t → cond {A = Option ℕ} t (Some (nat_abs z)) None ≡ Some n → Numbered largest z n
    go z true p e = let b = both (le_z (pos 1) z) (le_z z (pos largest)) p in sound z n b.0 b.1 (cc)
    go z false p e = let c : ◌≡◌ {A = ℕ} 0 1 = cc in absurd (omega arith)

pub number_none : (largest : ℕ) (z : ℤ) → number_in largest z ≡ None → within 1 largest z ≡ false
unfolding number_in
number_none largest z e = go (within 1 largest z) e
  where
    go : (t : Bool) → cond {A = Option ℕ} t (Some (nat_abs z)) None ≡ None → t ≡ false
    go true e = let c : ◌≡◌ {A = ℕ} 0 1 = cc in absurd (omega arith)
    go false e = refl

-- ---- what is made of a number
made : {A : Type 0} (f : ℕ → A) (x : ℕ) (t : Bool) → option_map f (cond t (Some x) None) ≡ cond t (Some (f x)) None
made f x true = refl
made f x false = refl

abbrev as_tag : ℕ → Tag
as_tag n = record { 0 = n }

abbrev as_id : ℕ → TorrentId
as_id n = record { 0 = n }

module _ (z : ℤ) (f : SFits w64 z) (r : Option ℕ) (e : r ≡ number_in 2147483647 (machine z)) where
  tag_made : option_map as_tag r ≡ tag_of z
  unfolding number_in tag_of
  tag_made = rw (e, same z f) (made as_tag (nat_abs z) (within 1 largest_tag z))

  pub tag_none : r ≡ None → None ≡ tag_of z
  tag_none h = rw h at tag_made

  pub tag_some : (n : ℕ) → r ≡ Some n → Some (as_tag n) ≡ tag_of z
  tag_some n h = rw h at tag_made

  pub ruleset tags = (tag_none, tag_some)

  id_made : option_map as_id r ≡ torrent_id_of z
  unfolding number_in torrent_id_of
  id_made = rw (e, same z f) (made as_id (nat_abs z) (within 1 largest_id z))

  pub id_none : r ≡ None → None ≡ torrent_id_of z
  id_none h = rw h at id_made

  pub id_some : (n : ℕ) → r ≡ Some n → Some (as_id n) ≡ torrent_id_of z
  id_some n h = rw h at id_made

  pub ruleset ids = (id_none, id_some)
