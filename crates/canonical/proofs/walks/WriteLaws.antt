-- Laws of what is written, one for each way through the functions that write.
-- Assumes nothing.
use Prim.Native.Nat.{ℕ, zero, suc, ◌+◌, ◌-◌, ◌≤◌}
use mathlib.Core.Path.{◌≡◌, refl, sym, ap, subst, ◌∙◌}
use mathlib.Core.Bool.{true, false}
use mathlib.Core.List.{List, [], ◌∷◌, ◌++◌, flatten, append-nil}
use native.Mathlib.Omega.{arith}
use borrow.Author.Tests.{eq-eqb, ne_eqb}
use lib.ListN.{length, length-append, take, drop, drop_of_length-le}
use Rattle.std.specs.Prelude.{Option, None, Some}
use Rattle.octets.specs.Bytes.{byte_at}
use Rattle.octets.specs.Put.{Wrote, Put}
use Rattle.octets.proofs.writing.PutLaws.{Writing, wrote_length, wrote_then, put_wrote, start, room_next, next, finish}
use Rattle.bencode.specs.Skip.{skip_value}
use Rattle.canonical.specs.declared.select.Pick.{Pick}
use Rattle.canonical.specs.SortWalk.{Bound, nothing, bound_of, least_at, rises_at, values_from, chosen, selected, entries_at, copied_at, sorted_at}
use Rattle.canonical.proofs.walks.SortWalks.{at_copied, at_list, at_dictionary}

take_none : (n : ℕ) (l : List ℕ) → l ≡ [] → take n l ≡ []
take_none zero [] e = refl
take_none (suc n) [] e = refl
take_none n (b ∷ l) e = let z : ◌≡◌ {A = ℕ} 0 1 = cc in absurd (omega arith)

-- past the payload there is nothing to copy
pub copied_none : (s : List ℕ) (at : ℕ) → length s ≤ at → copied_at s at ≡ []
copied_none s at h = take_none (skip_value s at - at) (drop at s) (drop_of_length-le s {i = at} h)

-- no level is left
pub at_bottom : (levels : ℕ) (s : List ℕ) (at : ℕ) → levels ≡ 0 → sorted_at levels s at ≡ copied_at s at
unfolding sorted_at
at_bottom zero s at e = refl
at_bottom (suc n) s at e = absurd (omega arith)

-- a level is left
module _ (levels : ℕ) (s : List ℕ) (at : ℕ) (h : levels ≡ 0 → ⊥) where
  pub above_copied : (byte_at s at ≡ 108 → ⊥) → (byte_at s at ≡ 100 → ⊥) → sorted_at levels s at ≡ copied_at s at
  above_copied = go levels h
    where
      go : (n : ℕ) → (n ≡ 0 → ⊥) → (byte_at s at ≡ 108 → ⊥) → (byte_at s at ≡ 100 → ⊥) → sorted_at n s at ≡ copied_at s at
      go zero k l d = absurd (k refl)
      go (suc n) k l d = at_copied n s at l d

  pub above_list : byte_at s at ≡ 108 → sorted_at levels s at ≡ 108 ∷ (values_from (sorted_at (levels - 1) s) s (length s) (at + 1) ++ (101 ∷ []))
  above_list = go levels h
    where
      go : (n : ℕ) → (n ≡ 0 → ⊥) → byte_at s at ≡ 108 → sorted_at n s at ≡ 108 ∷ (values_from (sorted_at (n - 1) s) s (length s) (at + 1) ++ (101 ∷ []))
      go zero k e = absurd (k refl)
      go (suc n) k e = let d : n ≡ suc n - 1 = omega arith in at_list n s at e ∙ ap (λ (m : ℕ). 108 ∷ (values_from (sorted_at m s) s (length s) (at + 1) ++ (101 ∷ []))) d

  pub above_dictionary : byte_at s at ≡ 100 → sorted_at levels s at ≡ 100 ∷ (entries_at (sorted_at (levels - 1) s) s (at + 1) ++ (101 ∷ []))
  above_dictionary = go levels h
    where
      go : (n : ℕ) → (n ≡ 0 → ⊥) → byte_at s at ≡ 100 → sorted_at n s at ≡ 100 ∷ (entries_at (sorted_at (n - 1) s) s (at + 1) ++ (101 ∷ []))
      go zero k e = absurd (k refl)
      go (suc n) k e = let d : n ≡ suc n - 1 = omega arith in at_dictionary n s at e ∙ ap (λ (m : ℕ). 100 ∷ (entries_at (sorted_at m s) s (at + 1) ++ (101 ∷ []))) d

-- ---- the values of a list
module _ (value : ℕ → List ℕ) (s : List ℕ) (at : ℕ) where
  pub items_over : (n : ℕ) → n ≤ 0 → values_from value s n at ≡ []
  unfolding values_from
  items_over zero h = refl
  items_over (suc n) h = absurd (omega arith)

  pub items_end_lem : (n : ℕ) → byte_at s at ≡ 101 → values_from value s n at ≡ []
  unfolding values_from
  items_end_lem zero e = refl
  items_end_lem (suc n) e = rw (eq-eqb (byte_at s at) 101 e) refl

  pub items_more : (n m : ℕ) → n ≡ suc m → (byte_at s at ≡ 101 → ⊥) → values_from value s n at ≡ value at ++ values_from value s m (at + length (value at))
  unfolding values_from
  items_more n m d e = rw (d, ne_eqb (byte_at s at) 101 e) refl

-- ---- the entries of a dictionary
module _ (value : ℕ → List ℕ) (s : List ℕ) (first : ℕ) where
  pub entries_rise : rises_at s first nothing ≡ true → entries_at value s first ≡ values_from value s (length s) first
  unfolding entries_at
  entries_rise e = rw e refl

  pub entries_mixed : rises_at s first nothing ≡ false → entries_at value s first ≡ selected value s first (length s) nothing
  unfolding entries_at
  entries_mixed e = rw e refl

  module _ (b : Bound) where
    pub selected_over : (n : ℕ) → n ≤ 0 → selected value s first n b ≡ []
    unfolding selected
    selected_over zero h = refl
    selected_over (suc n) h = absurd (omega arith)

    pub selected_none : (n : ℕ) (p : Option Pick) → p ≡ least_at s b first None → p ≡ None → selected value s first n b ≡ []
    unfolding selected
    selected_none zero p h e = refl
    selected_none (suc n) p h e = ap (λ (x : Option Pick). chosen value s x (λ c. selected value s first n c)) (sym h ∙ e)

    pub selected_more : (n m : ℕ) (p : Option Pick) (q : Pick) → n ≡ suc m → p ≡ least_at s b first None → p ≡ Some q → selected value s first n b ≡ values_from value s 2 q.at ++ selected value s first m (bound_of s (Some q))
    unfolding selected
    selected_more n m p q d h e = rw d (ap (λ (x : Option Pick). chosen value s x (λ c. selected value s first m c)) (sym h ∙ e))

-- ---- bytes being written, by what is left of them
-- from the offset i of a buffer the bytes `all` are being written: so far it is b, and from the offset j on `left` is left
abbrev pub Left : List ℕ → ℕ → List ℕ → List ℕ → ℕ → List ℕ → Type 0
Left a i all b j left = Writing a i (all ∷ []) b j (left ∷ [])

one_part : (x : List ℕ) → flatten (x ∷ []) ≡ x
unfolding flatten
one_part x = append-nil x

two_parts : (x y : List ℕ) → flatten (x ∷ y ∷ []) ≡ x ++ y
unfolding flatten
two_parts x y = ap (λ (l : List ℕ). x ++ l) (append-nil y)

no_parts : flatten {A = ℕ} [] ≡ []
unfolding flatten
no_parts = refl

-- parts that come to the same
regroup : {a b : List ℕ} {i j : ℕ} {parts : List (List ℕ)} (rest other : List (List ℕ)) → flatten rest ≡ flatten other → Writing a i parts b j rest → Writing a i parts b j other
regroup {a} {b} {i} {j} {parts} rest other e p =
    record {
      stores = rw (sym e) p.stores;
      ends = omega (arith, ap length e, p.ends);
      room = omega (arith, ap length e, p.room);
      kept = p.kept;
    }

pub left_all : (a : List ℕ) (i : ℕ) (all : List ℕ) → i + length all ≤ length a → Left a i all a i all
left_all a i all h = start a i (all ∷ []) (omega (arith, ap length (one_part all)))

module _ {a b all left : List ℕ} {i j : ℕ} (p : Left a i all b j left) where
  split : (x y : List ℕ) → left ≡ x ++ y → Writing a i (all ∷ []) b j (x ∷ y ∷ [])
  split x y e = regroup (left ∷ []) (x ∷ y ∷ []) (one_part left ∙ e ∙ sym (two_parts x y)) p

  pub left_room : (x y : List ℕ) → left ≡ x ++ y → j + length x ≤ length b
  left_room x y e = room_next (split x y e)

  pub left_next : (x y c : List ℕ) (k : ℕ) → left ≡ x ++ y → Wrote b j x c k → Left a i all c k y
  left_next x y c k e w = next (split x y e) w

  pub left_none : left ≡ [] → Wrote a i all b j
  left_none e = subst (λ (l : List ℕ). Wrote a i l b j) (one_part all) (finish (regroup (left ∷ []) [] (one_part left ∙ e ∙ sym no_parts) p))

-- ---- a list or a dictionary: its first byte, what is in it, and `e`
module _ (a : List ℕ) (to first : ℕ) (inner all : List ℕ) (e : all ≡ first ∷ (inner ++ (101 ∷ []))) (h : to + length all ≤ length a) where
  total : length all ≡ suc (length inner + 1)
  total = ap length e ∙ ap suc (length-append inner (101 ∷ []))

  module _ (b : List ℕ) (o : ℕ) (p : Put a to (first ∷ []) b o) where
    pub opened_wrote : Wrote a to (first ∷ []) b o
    opened_wrote = put_wrote (omega (arith, total)) p

    pub opened_room : o + length inner ≤ length b
    opened_room = omega (arith, total, wrote_length opened_wrote, opened_wrote.ended)

    pub closed_wrote : (c d : List ℕ) (k r : ℕ) → Wrote b o inner c k → Put c k (101 ∷ []) d r → Wrote a to all d r
    closed_wrote c d k r w q =
        let room : k + 1 ≤ length c = omega (arith, total, wrote_length opened_wrote, opened_wrote.ended, wrote_length w, w.ended) in
        subst (λ (l : List ℕ). Wrote a to l d r) (sym e) (wrote_then (wrote_then opened_wrote w) (put_wrote room q))
