-- The parts of a sound record, and the IDs that a test filters out of its watch list.
-- Assumes nothing.
use Prim.Native.Nat.{suc, ◌+◌, ◌≤◌}
use native.Mathlib.Omega.{arith}
use mathlib.Core.Path.{◌≡◌, refl, ap}
use mathlib.Core.Bool.{Bool, true, cond, not, ◌||◌}
use mathlib.Core.List.{List, [], ◌∷◌}
use lib.Dec.{leb, eqb}
use lib.ListN.{length, drop, length-take}
use borrow.Author.Tests.{eqb-true, leb-true, le-leb}
use Rattle.desk.specs.declared.watch.Watch.{Watch}
use Rattle.desk.specs.declared.record.Desk.{Desk}
use Rattle.desk.specs.Limit.{is_limit}
use Rattle.desk.specs.Watch.{most_watched, has, list_fault, unused, filtered, all_ids}
use Rattle.desk.specs.Record.{watched, limits_sound, list_sound, sound}
use Rattle.desk.proofs.general.Cases.{by_cases, both, and_true}
use Rattle.desk.proofs.watching.WatchLists.{ids_ok, ids_cons, fault_ids, ids_fault}

-- ---- a sound record
pub record Sound (d : Desk) : Type 0 where
  pub is_open : d.opened ≡ true
  pub few : d.count ≤ most_watched
  pub down : is_limit d.down ≡ true
  pub up : is_limit d.up ≡ true
  pub ids : ids_ok (watched d) ≡ true
  pub zeros : unused (drop d.count d.watch) ≡ true
  pub override : (eqb d.override_id 0 || has d.override_id (watched d)) ≡ true

pub sound_parts : (d : Desk) → sound d ≡ true → Sound d
unfolding sound limits_sound list_sound
sound_parts d h =
    let a = both d.opened _ h in
    let b = both (leb d.count most_watched) _ a.1 in
    let l = both (limits_sound d) _ b.1 in
    let e = both (is_limit d.down) _ l.0 in
    let f = both (eqb (list_fault [] (watched d)) 0) _ l.1 in
    let u = both (unused (drop d.count d.watch)) _ f.1 in
    record {
      is_open = a.0;
      few = leb-true d.count most_watched b.0;
      down = e.0;
      up = e.1;
      ids = fault_ids (watched d) (eqb-true _ 0 f.0);
      zeros = u.0;
      override = u.1;
    }

-- and a record from such parts
pub parts_sound : (d : Desk) → Sound d → sound d ≡ true
unfolding sound limits_sound list_sound
parts_sound d p =
    and_true p.is_open
    (and_true (le-leb d.count most_watched p.few)
    (and_true (and_true p.down p.up)
    (and_true (ap (λ n. eqb n 0) (ids_fault (watched d) p.ids)) (and_true p.zeros p.override))))

pub watched_length : (d : Desk) → sound d ≡ true → length (watched d) ≤ most_watched
watched_length d h = omega (arith, (sound_parts d h).few, length-take d.count d.watch)

-- ---- filtered IDs
pub pick_ids_lem : (p : Watch → Bool) (ws : List Watch) → ids_ok ws ≡ true → all_ids (filtered p ws) ≡ true
unfolding all_ids filtered
pick_ids_lem p [] k = refl
pick_ids_lem p (w ∷ ws) k =
    let k' = ids_cons w ws k in
    let r = pick_ids_lem p ws k'.2 in
    by_cases (λ b. all_ids (cond b (w.id ∷ filtered p ws) (filtered p ws)) ≡ true) (p w) (λ _. and_true k'.0 r) (λ _. r)

pub pick_length : (p : Watch → Bool) (ws : List Watch) → length (filtered p ws) ≤ length ws
unfolding filtered
pick_length p [] = omega arith
pick_length p (w ∷ ws) =
    let r = pick_length p ws in
    by_cases (λ b. length (cond b (w.id ∷ filtered p ws) (filtered p ws)) ≤ suc (length ws)) (p w) (λ _. omega arith) (λ _. omega arith)

-- those that pass and those that do not are all
pub pick_both : (p : Watch → Bool) (ws : List Watch) → length (filtered p ws) + length (filtered (λ w. not (p w)) ws) ≡ length ws
unfolding filtered
pick_both p [] = refl
pick_both p (w ∷ ws) =
    let r = pick_both p ws in
    let rest = filtered (λ v. not (p v)) ws in
    by_cases (λ b. length (cond b (w.id ∷ filtered p ws) (filtered p ws)) + length (cond (not b) (w.id ∷ rest) rest) ≡ suc (length ws)) (p w)
    (λ _. omega arith)
    (λ _. omega arith)
