-- Laws of the watch list: which IDs it has, their marks, and lists without a fault.
-- Assumes nothing.
use Prim.Native.Nat.{ℕ, suc, ◌<◌, suc-le-suc, zero-le}
use native.Mathlib.Omega.{arith}
use mathlib.Core.Path.{◌≡◌, refl, sym, ap, ap₂, ◌∙◌}
use mathlib.Core.Bool.{Bool, true, false, cond, not, ◌&&◌, ◌||◌, false≢true, or-false, or-true, or_assoc}
use mathlib.Core.List.{List, [], ◌∷◌, ◌++◌}
use lib.Dec.{eqb, ltb}
use lib.ListN.{length, set}
use borrow.Author.Tests.{eqb-true, eqb-false, ne_eqb, not-true, eq-eqb, lt-ltb, le-ltb}
use Rattle.desk.specs.declared.watch.Watch.{Watch}
use Rattle.desk.specs.Watch.{is_id, has, place, marked, list_fault}
use Rattle.desk.proofs.general.Cases.{by_cases, both, neither, and_true}

-- ---- tests
-- no number equals both of two that differ
eqb_exclusive : (a b c : ℕ) → eqb a b ≡ false → (eqb a c && eqb b c) ≡ false
eqb_exclusive a b c h =
    by_cases (λ t. (t && eqb b c) ≡ false) (eqb a c)
    (λ p. by_cases (λ t. t ≡ false) (eqb b c) (λ q. absurd (eqb-false a b h (eqb-true a c p ∙ sym (eqb-true b c q)))) (λ _. refl))
    (λ _. refl)

cond_again : (b o r m : Bool) → cond b o m ≡ cond b o (cond b r m)
cond_again true o r m = refl
cond_again false o r m = refl

cond_swap : (a b r o m : Bool) → (a && b) ≡ false → cond a r (cond b o m) ≡ cond b o (cond a r m)
cond_swap true true r o m e = absurd (false≢true (sym e))
cond_swap true false r o m e = refl
cond_swap false true r o m e = refl
cond_swap false false r o m e = refl

-- ---- an ID's record with a mark
abbrev pub entry : ℕ → Bool → Watch
entry x on = record { id = x; running = on }

pub has_set : (x y : ℕ) (on : Bool) (ws : List Watch) → has y (set ws (place x ws) (entry x on)) ≡ has y ws
unfolding has place
has_set x y on [] = refl
has_set x y on (w ∷ ws) =
    by_cases (λ b. has y (set (w ∷ ws) (cond b 0 (suc (place x ws))) (entry x on)) ≡ has y (w ∷ ws)) (eqb w.id x)
    (λ e. ap (λ n. eqb n y || has y ws) (sym (eqb-true w.id x e)))
    (λ e. ap (λ b. eqb w.id y || b) (has_set x y on ws))

pub marked_set : (x y : ℕ) (on : Bool) (ws : List Watch) → has x ws ≡ true
    → marked y (set ws (place x ws) (entry x on)) ≡ cond (eqb x y) on (marked y ws)
unfolding has place marked
marked_set x y on [] h = absurd (false≢true h)
marked_set x y on (w ∷ ws) h =
    by_cases
    (λ b. (b || has x ws) ≡ true → marked y (set (w ∷ ws) (cond b 0 (suc (place x ws))) (entry x on)) ≡ cond (eqb x y) on (marked y (w ∷ ws)))
    (eqb w.id x)
    (λ e _.
    cond_again (eqb x y) on w.running (marked y ws)
    ∙ ap (λ n. cond (eqb x y) on (cond (eqb n y) w.running (marked y ws))) (sym (eqb-true w.id x e)))
    (λ e g.
    ap (λ b. cond (eqb w.id y) w.running b) (marked_set x y on ws g)
    ∙ cond_swap (eqb w.id y) (eqb x y) w.running on (marked y ws) (eqb_exclusive w.id x y e))
    h

pub place_below : (x : ℕ) (ws : List Watch) → has x ws ≡ true → place x ws < length ws
unfolding has place
place_below x [] h = absurd (false≢true h)
place_below x (w ∷ ws) h =
    by_cases (λ b. (b || has x ws) ≡ true → cond b 0 (suc (place x ws)) < suc (length ws)) (eqb w.id x)
    (λ e _. suc-le-suc zero-le)
    (λ e g. suc-le-suc (place_below x ws g))
    h

place_none : (x : ℕ) (ws : List Watch) → has x ws ≡ false → place x ws ≡ length ws
unfolding has place
place_none x [] h = refl
place_none x (w ∷ ws) h =
    by_cases (λ b. (b || has x ws) ≡ false → cond b 0 (suc (place x ws)) ≡ suc (length ws)) (eqb w.id x)
    (λ e g. absurd (false≢true (sym g)))
    (λ e g. ap suc (place_none x ws g))
    h

-- an ID is among the records where its place is one of theirs
pub has_place : (x n : ℕ) (ws : List Watch) → length ws ≡ n → ltb (place x ws) n ≡ has x ws
has_place x n ws e =
    by_cases (λ b. has x ws ≡ b → ltb (place x ws) n ≡ b) (has x ws)
    (λ _ h. lt-ltb (place x ws) n (omega (arith, e, place_below x ws h)))
    (λ _ h. le-ltb (place x ws) n (omega (arith, e, place_none x ws h)))
    refl

pub has_apart : (x y : ℕ) (ws : List Watch) → has x ws ≡ true → has y ws ≡ false → eqb x y ≡ false
has_apart x y ws h g = ne_eqb x y (λ e. false≢true (sym g ∙ ap (λ z. has z ws) (sym e) ∙ h))

-- ---- lists without a fault: every ID in its range, and none again
unfoldable pub ids_ok : List Watch → Bool
ids_ok [] = true
ids_ok (w ∷ ws) = is_id w.id && (not (has w.id ws) && ids_ok ws)

pub ids_cons : (w : Watch) (ws : List Watch) → ids_ok (w ∷ ws) ≡ true
    → (is_id w.id ≡ true) × (has w.id ws ≡ false) × (ids_ok ws ≡ true)
unfolding ids_ok
ids_cons w ws k =
    let k' = both (is_id w.id) _ k in
    let k'' = both (not (has w.id ws)) _ k'.1 in
    (k'.0, not-true (has w.id ws) k''.0, k''.1)

-- one record more at the end
has_snoc : (x : ℕ) (seen : List Watch) (w : Watch) → has x (seen ++ (w ∷ [])) ≡ (has x seen || eqb w.id x)
unfolding has
has_snoc x [] w = or-false (eqb w.id x)
has_snoc x (v ∷ seen) w = ap (λ b. eqb v.id x || b) (has_snoc x seen w) ∙ sym (or_assoc (eqb v.id x) (has x seen) (eqb w.id x))

-- no fault after records seen: no fault by itself, and no ID that was seen
record Faultless (seen ws : List Watch) : Type 0 where
  ids : ids_ok ws ≡ true
  new : (x : ℕ) → has x seen ≡ true → has x ws ≡ false

faultless : (seen ws : List Watch) → list_fault seen ws ≡ 0 → Faultless seen ws
unfolding list_fault ids_ok has
faultless seen [] e = record { ids = refl; new = λ x h. refl }
faultless seen (w ∷ ws) z =
    by_cases (λ b. is_id w.id ≡ b → cond b (cond (has w.id seen) 37 (list_fault (seen ++ (w ∷ [])) ws)) 36 ≡ 0 → Faultless seen (w ∷ ws)) (is_id w.id)
    (λ _ ok.
    by_cases (λ b. has w.id seen ≡ b → cond b 37 (list_fault (seen ++ (w ∷ [])) ws) ≡ 0 → Faultless seen (w ∷ ws)) (has w.id seen)
    (λ _ _ e. let impossible : ⊥ = omega arith in absurd impossible)
    (λ _ out e.
    let r = faultless (seen ++ (w ∷ [])) ws e in
    let self : has w.id (seen ++ (w ∷ [])) ≡ true = has_snoc w.id seen w ∙ ap (λ b. has w.id seen || b) (eq-eqb w.id w.id refl) ∙ or-true (has w.id seen) in
    record {
      ids = and_true ok (and_true (ap not (r.new w.id self)) r.ids);
      new = λ x h.
          ap₂ ◌||◌ (ne_eqb w.id x (λ q. false≢true (sym out ∙ ap (λ n. has n seen) q ∙ h)))
          (r.new x (has_snoc x seen w ∙ ap (λ b. b || eqb w.id x) h));
    })
    refl)
    (λ _ _ e. let impossible : ⊥ = omega arith in absurd impossible)
    refl
    z

pub fault_ids : (ws : List Watch) → list_fault [] ws ≡ 0 → ids_ok ws ≡ true
fault_ids ws e = (faultless [] ws e).ids

-- and the other way round
no_fault : (seen ws : List Watch) → ids_ok ws ≡ true → ((x : ℕ) → has x seen ≡ true → has x ws ≡ false) → list_fault seen ws ≡ 0
unfolding list_fault has
no_fault seen [] k new = refl
no_fault seen (w ∷ ws) k new =
    let k' = ids_cons w ws k in
    let next : (x : ℕ) → has x (seen ++ (w ∷ [])) ≡ true → has x ws ≡ false =
    λ x h.
    by_cases (λ b. has x seen ≡ b → has x ws ≡ false) (has x seen)
    (λ _ old. (neither (eqb w.id x) (has x ws) (new x old)).1)
    (λ _ old. ap (λ n. has n ws) (sym (eqb-true w.id x (ap (λ b. b || eqb w.id x) (sym old) ∙ sym (has_snoc x seen w) ∙ h))) ∙ k'.1)
    refl in
    by_cases (λ b. has w.id seen ≡ b → cond (is_id w.id) (cond b 37 (list_fault (seen ++ (w ∷ [])) ws)) 36 ≡ 0) (has w.id seen)
    (λ _ old. absurd (false≢true (sym (neither (eqb w.id w.id) (has w.id ws) (new w.id old)).0 ∙ eq-eqb w.id w.id refl)))
    (λ _ _. ap (λ b. cond b (list_fault (seen ++ (w ∷ [])) ws) 36) k'.0 ∙ no_fault (seen ++ (w ∷ [])) ws k'.2 next)
    refl

pub ids_fault : (ws : List Watch) → ids_ok ws ≡ true → list_fault [] ws ≡ 0
unfolding has
ids_fault ws k = no_fault [] ws k (λ x h. absurd (false≢true h))

-- a watched ID is a torrent ID, and a torrent ID is not 0
pub has_id_lem : (x : ℕ) (ws : List Watch) → ids_ok ws ≡ true → has x ws ≡ true → is_id x ≡ true
unfolding has
has_id_lem x [] k h = absurd (false≢true h)
has_id_lem x (w ∷ ws) k h =
    let k' = ids_cons w ws k in
    by_cases (λ b. (b || has x ws) ≡ true → is_id x ≡ true) (eqb w.id x)
    (λ e _. ap is_id (sym (eqb-true w.id x e)) ∙ k'.0)
    (λ e g. has_id_lem x ws k'.2 g)
    h

pub id_not_zero : (x : ℕ) → is_id x ≡ true → eqb x 0 ≡ false
unfolding is_id
id_not_zero x h = ne_eqb x 0 (λ e. false≢true (ap is_id (sym e) ∙ h))

-- the same with another mark
pub ids_set : (x : ℕ) (on : Bool) (ws : List Watch) → ids_ok (set ws (place x ws) (entry x on)) ≡ ids_ok ws
unfolding ids_ok place
ids_set x on [] = refl
ids_set x on (w ∷ ws) =
    by_cases (λ b. ids_ok (set (w ∷ ws) (cond b 0 (suc (place x ws))) (entry x on)) ≡ ids_ok (w ∷ ws)) (eqb w.id x)
    (λ e. ap (λ n. is_id n && (not (has n ws) && ids_ok ws)) (sym (eqb-true w.id x e)))
    (λ e. ap₂ (λ h k. is_id w.id && (not h && k)) (has_set x w.id on ws) (ids_set x on ws))
