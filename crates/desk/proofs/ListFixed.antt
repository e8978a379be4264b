-- The list is fixed from opening on: every call keeps the number of records and the ID at each place.
-- Assumes nothing.
use Prim.Native.Nat.{ℕ, zero, suc}
use mathlib.Core.Path.{◌≡◌, refl, sym, ap, subst}
use mathlib.Core.Bool.{Bool, true, false, cond, ◌||◌, false≢true}
use mathlib.Core.List.{List, [], ◌∷◌, map}
use lib.Dec.{eqb}
use lib.ListN.{take, set}
use borrow.Author.Tests.{eqb-true}
use Rattle.desk.specs.declared.watch.Watch.{Watch}
use Rattle.desk.specs.declared.record.Desk.{Desk}
use Rattle.desk.specs.Watch.{has, place}
use Rattle.desk.specs.Record.{with_down, with_up, with_override, with_running}
use Rattle.desk.specs.Command.{Command}
use Rattle.desk.specs.declared.call.Call.{Call}
use Rattle.desk.specs.Plan.{Outcome, deferred, desk_after, plan}
use Rattle.desk.specs.Calls.{framed, outcome}
use Rattle.desk.specs.Demands.{ListFixed}
use Rattle.desk.proofs.general.Cases.{by_cases, cond_cases}
use Rattle.desk.proofs.watching.WatchLists.{entry}
use Rattle.desk.proofs.acting.RefusalLaws.{Accepted}
use Rattle.desk.proofs.acting.CallLaws.{outcome_cases}

abbrev ids : List Watch → List ℕ
ids ws = map (λ w. w.id) ws

-- the mark of an ID among the first n records is set at a place that holds that ID
ids_kept : (n x : ℕ) (on : Bool) (ws : List Watch) → has x (take n ws) ≡ true → ids (set ws (place x (take n ws)) (entry x on)) ≡ ids ws
unfolding has place
ids_kept zero x on ws h = absurd (false≢true h)
ids_kept (suc n) x on [] h = absurd (false≢true h)
ids_kept (suc n) x on (w ∷ ws) h =
    by_cases
    (λ b. (b || has x (take n ws)) ≡ true → ids (set (w ∷ ws) (cond b 0 (suc (place x (take n ws)))) (entry x on)) ≡ ids (w ∷ ws))
    (eqb w.id x)
    (λ e _. ap (λ y. y ∷ ids ws) (sym (eqb-true w.id x e)))
    (λ _ g. ap (λ (l : List ℕ). w.id ∷ l) (ids_kept n x on ws g))
    h

-- a record with the list of d
abbrev SameList : Desk → Desk → Type 0
SameList d next = (next.count ≡ d.count) × (ids next.watch ≡ ids d.watch)

accepted_fixed : (c : Call) (d : Desk) → Accepted c d → SameList d (desk_after c d)
unfolding desk_after with_down with_up with_running with_override
accepted_fixed (Call.Down n) d ok = (refl, refl)
accepted_fixed (Call.Up n) d ok = (refl, refl)
accepted_fixed (Call.Start x) d ok = (refl, ids_kept d.count x true d.watch ok.id)
accepted_fixed (Call.Stop x) d ok = (refl, ids_kept d.count x false d.watch ok.id)
accepted_fixed (Call.Raise x) d ok = (refl, refl)
accepted_fixed Call.Clear d ok = (refl, refl)

abbrev KeepsList : Desk → Outcome (List Command) → Type 0
KeepsList d o = SameList d o.desk

pub list_fixed : ListFixed
unfolding plan framed
list_fixed c room d =
    let k = outcome_cases (KeepsList d) c room d (λ _ _. (refl, refl))
    (λ ok. cond_cases (KeepsList d) (deferred c d) (λ _. accepted_fixed c d ok) (λ _. accepted_fixed c d ok)) in
    let same : (outcome c room d).desk ≡ k.by.desk = ap (λ (o : Outcome (List ℕ)). o.desk) k.is in
    subst (SameList d) (sym same) k.holds
