-- Which IDs are among those that a test filters out of the watch list.
-- Assumes nothing.
use Prim.Native.Nat.{ℕ}
use mathlib.Core.Path.{◌≡◌, refl, sym, ap, ap₂, ◌∙◌}
use mathlib.Core.Bool.{Bool, true, false, cond, not, ◌&&◌, ◌||◌, false≢true, and-false, and-true, or-false}
use mathlib.Core.List.{List, [], ◌∷◌}
use lib.Dec.{eqb}
use borrow.Author.Tests.{eqb-true, eqb-false, ne_eqb}
use Rattle.desk.specs.declared.watch.Watch.{Watch}
use Rattle.desk.specs.Watch.{has, marked, filtered}
use Rattle.desk.specs.Machine.{is_among}
use Rattle.desk.proofs.general.Cases.{by_cases}
use Rattle.desk.proofs.watching.WatchLists.{ids_ok, ids_cons}

-- a number that equals b is not c, where b and c differ
eqb_excludes : (a b c : ℕ) → eqb b c ≡ false → (not (eqb a c) && eqb a b) ≡ eqb a b
eqb_excludes a b c h =
    by_cases (λ t. (not (eqb a c) && t) ≡ t) (eqb a b)
    (λ p. ap (λ n. not (eqb n c) && true) (eqb-true a b p) ∙ ap (λ t. not t && true) h)
    (λ _. and-false (not (eqb a c)))

-- one record more: its ID is listed if it passes
listed_cond : (x y : ℕ) (b : Bool) (l : List ℕ) → is_among x (cond b (y ∷ l) l) ≡ ((b && eqb y x) || is_among x l)
unfolding is_among
listed_cond x y true l = refl
listed_cond x y false l = refl

-- an ID that is not watched is not listed
pub unwatched_unlisted : (x : ℕ) (p : Watch → Bool) (ws : List Watch) → has x ws ≡ false → is_among x (filtered p ws) ≡ false
unfolding has filtered is_among
unwatched_unlisted x p [] h = refl
unwatched_unlisted x p (w ∷ ws) h =
    listed_cond x w.id (p w) (filtered p ws)
    ∙ by_cases (λ b. (b || has x ws) ≡ false → ((p w && b) || is_among x (filtered p ws)) ≡ false) (eqb w.id x)
    (λ e g. absurd (false≢true (sym g)))
    (λ e g. ap (λ b. b || is_among x (filtered p ws)) (and-false (p w)) ∙ unwatched_unlisted x p ws g)
    h

-- all watched IDs but x: every other watched ID is listed
pub others_listed : (x y : ℕ) (ws : List Watch) → eqb x y ≡ false → is_among y (filtered (λ w. not (eqb w.id x)) ws) ≡ has y ws
unfolding has filtered is_among
others_listed x y [] h = refl
others_listed x y (w ∷ ws) h =
    listed_cond y w.id (not (eqb w.id x)) (filtered (λ v. not (eqb v.id x)) ws)
    ∙ ap₂ ◌||◌ (eqb_excludes w.id y x (ne_eqb y x (λ e. eqb-false x y h (sym e)))) (others_listed x y ws h)

-- with no ID again, the IDs filtered by their mark are those so marked
pub marked_listed : (x : ℕ) (q : Bool → Bool) (ws : List Watch) → ids_ok ws ≡ true → has x ws ≡ true
    → is_among x (filtered (λ w. q w.running) ws) ≡ q (marked x ws)
unfolding has filtered is_among marked
marked_listed x q [] k h = absurd (false≢true h)
marked_listed x q (w ∷ ws) k h =
    let k' = ids_cons w ws k in
    let rest = filtered (λ v. q v.running) ws in
    listed_cond x w.id (q w.running) rest
    ∙ by_cases (λ b. (b || has x ws) ≡ true → ((q w.running && b) || is_among x rest) ≡ q (cond b w.running (marked x ws))) (eqb w.id x)
    (λ e _.
    ap₂ ◌||◌ (and-true (q w.running))
    (unwatched_unlisted x (λ v. q v.running) ws (ap (λ n. has n ws) (sym (eqb-true w.id x e)) ∙ k'.1))
    ∙ or-false (q w.running))
    (λ e g. ap (λ b. b || is_among x rest) (and-false (q w.running)) ∙ marked_listed x q ws k'.2 g)
    h

-- with no ID again, a watched ID alone
none_alone : (x : ℕ) (ws : List Watch) → has x ws ≡ false → filtered (λ w. eqb w.id x) ws ≡ []
unfolding has filtered
none_alone x [] h = refl
none_alone x (w ∷ ws) h =
    by_cases (λ b. (b || has x ws) ≡ false → cond b (w.id ∷ filtered (λ v. eqb v.id x) ws) (filtered (λ v. eqb v.id x) ws) ≡ []) (eqb w.id x)
    (λ _ g. absurd (false≢true (sym g)))
    (λ _ g. none_alone x ws g)
    h

pub alone : (x : ℕ) (ws : List Watch) → ids_ok ws ≡ true → has x ws ≡ true → filtered (λ w. eqb w.id x) ws ≡ x ∷ []
unfolding has filtered
alone x [] k h = absurd (false≢true h)
alone x (w ∷ ws) k h =
    let k' = ids_cons w ws k in
    by_cases (λ b. (b || has x ws) ≡ true → cond b (w.id ∷ filtered (λ v. eqb v.id x) ws) (filtered (λ v. eqb v.id x) ws) ≡ x ∷ []) (eqb w.id x)
    (λ e _. let same = eqb-true w.id x e in ap₂ (λ (y : ℕ) (l : List ℕ). y ∷ l) same (none_alone x ws (ap (λ n. has n ws) (sym same) ∙ k'.1)))
    (λ _ g. alone x ws k'.2 g)
    h
