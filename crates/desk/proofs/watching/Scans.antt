-- What the library's searches of the watch list tell, and a loop over its records, one at a time.
-- Assumes nothing.
use mathlib.Core.Path.{◌≡◌, refl, ap}
use Prim.Native.Nat.{ℕ, ◌+◌, ◌<◌, ◌≤◌, suc}
use native.Mathlib.Numerals.{add-one}
use native.Mathlib.Omega.{arith}
use mathlib.Core.Bool.{true, false, cond, not, ◌&&◌, ◌||◌}
use mathlib.Core.List.{List, [], ◌∷◌}
use borrow.Author.Tests.{ltb-false}
use lib.Dec.{eqb, ltb}
use lib.ListN.{length, get_or, take, drop, drop_of_length-le}
use lib.Seq.{drop-cons, take-suc}
use Rattle.std.specs.Prelude.{unwrap_or, Some, None}
use Rattle.std.specs.List.{list_any, list_all, position_or_len}
use Rattle.std.proofs.lemmas.List.Recursion.{same_from_clauses, is_position_or_len}
use Rattle.desk.specs.Watch.{empty, is_id, has, place, list_fault, unused}
use Rattle.desk.specs.declared.watch.Watch.{Watch}
use Rattle.desk.proofs.general.Cases.{by_cases}

-- ---- searches
pub any_has : (x : ℕ) (ws : List Watch) → list_any (λ w. eqb w.id x) ws ≡ has x ws
unfolding has
any_has x ws = same_from_clauses (list_any (λ w. eqb w.id x)) (has x) (λ w h. eqb w.id x || h) refl (λ _ _. refl) (λ _ _. refl) ws

pub all_unused : (ws : List Watch) → list_all (λ w. eqb w.id 0 && not w.running) ws ≡ unused ws
unfolding unused
all_unused ws = same_from_clauses (list_all (λ w. eqb w.id 0 && not w.running)) unused (λ w h. (eqb w.id 0 && not w.running) && h) refl (λ _ _. refl) (λ _ _. refl) ws

place_within : (x : ℕ) (ws : List Watch) → place x ws ≤ length ws
unfolding place
place_within x [] = omega arith
place_within x (w ∷ ws) =
    by_cases (λ b. cond b 0 (suc (place x ws)) ≤ suc (length ws)) (eqb w.id x)
    (λ _. omega arith)
    (λ _. omega (arith, place_within x ws))

place_step : (x : ℕ) (w : Watch) (ws : List Watch) → place x (w ∷ ws) ≡ cond (eqb w.id x) 0 (1 + place x ws)
unfolding place
place_step x w ws = let next : suc (place x ws) ≡ 1 + place x ws = omega arith in ap (λ (n : ℕ). cond (eqb w.id x) 0 n) next

-- a number below n, or n
or_end : (p n : ℕ) → p ≤ n → unwrap_or (cond (ltb p n) (Some p) None) n ≡ p
or_end p n h =
    by_cases (λ b. ltb p n ≡ b → unwrap_or (cond b (Some p) None) n ≡ p) (ltb p n)
    (λ _ _. refl)
    (λ _ e. omega (arith, ltb-false p n e))
    refl

-- the place of the first record that has an ID, or how many records there are
pub first_place : (x : ℕ) (ws : List Watch)
    → unwrap_or (cond (ltb (position_or_len (λ w. eqb w.id x) ws) (length ws)) (Some (position_or_len (λ w. eqb w.id x) ws)) None) (length ws) ≡ place x ws
unfolding place
first_place x ws = rw (← is_position_or_len (place x) (λ w. eqb w.id x) refl (place_step x) ws) (or_end (place x ws) (length ws) (place_within x ws))

-- ---- a loop
-- past the last record there is none
pub fault_none : (l : List Watch) (i : ℕ) → length l ≤ i → list_fault (take i l) (drop i l) ≡ 0
unfolding list_fault
fault_none l i h = rw (drop_of_length-le l {i = i} h)

module _ (l : List Watch) (i : ℕ) (h : i < length l) where
  -- what is left of the records begins with record i
  pub record_next : drop i l ≡ get_or l i empty ∷ drop (i + 1) l
  record_next = rw add-one (drop-cons l i empty h)

  -- record i has an ID out of its range, or one again, or neither and the records after it decide
  fault_next : list_fault (take i l) (drop i l) ≡ cond (is_id (get_or l i empty).id) (cond (has (get_or l i empty).id (take i l)) 37 (list_fault (take (i + 1) l) (drop (i + 1) l))) 36
  unfolding list_fault
  fault_next = rw (record_next, add-one, take-suc l i empty h)

  pub fault_range : is_id (get_or l i empty).id ≡ false → list_fault (take i l) (drop i l) ≡ 36
  fault_range v = rw (fault_next, v)

  pub fault_again : is_id (get_or l i empty).id ≡ true → has (get_or l i empty).id (take i l) ≡ true → list_fault (take i l) (drop i l) ≡ 37
  fault_again v w = rw (fault_next, v, w)

  pub fault_past : is_id (get_or l i empty).id ≡ true → has (get_or l i empty).id (take i l) ≡ false
      → list_fault (take i l) (drop i l) ≡ list_fault (take (i + 1) l) (drop (i + 1) l)
  fault_past v w = rw (fault_next, v, w)
