-- Demand 3: each call is a step (`Steps`), the daemon takes the frames that the call wrote (`ReadsCommands`), and the override
-- that stands is the record's.
-- Assumes nothing.
use Prim.Native.Nat.{ℕ, ◌≤◌}
use native.Mathlib.Omega.{arith}
use mathlib.Core.Path.{◌≡◌, refl, sym, ap, ap₂, subst, ◌∙◌}
use mathlib.Core.Bool.{Bool, true, false, cond, not, ◌||◌, or-true, or-false, false≢true}
use mathlib.Core.List.{List, [], ◌∷◌, ◌++◌, nil≢cons}
use mathlib.Core.Option.{some, none}
use lib.Dec.{eqb}
use lib.IntN.{ℤ}
use lib.ListN.{length, take, drop}
use borrow.Author.Tests.{ne_eqb, eqb-true}
use Rattle.desk.specs.declared.call.Call.{Call}
use Rattle.desk.specs.declared.watch.Watch.{Watch}
use Rattle.desk.specs.declared.record.Desk.{Desk}
use Rattle.desk.specs.Watch.{most_watched, has, marked, places}
use Rattle.desk.specs.Record.{opened_with, with_down, with_up, with_running, with_override}
use Rattle.desk.specs.Opening.{opening}
use Rattle.desk.specs.Command.{Command, frames_of}
use Rattle.desk.specs.Refusal.{stands}
use Rattle.desk.specs.Plan.{Outcome, deferred, desk_after, plan}
use Rattle.desk.specs.Calls.{framed, outcome, returned, buffer_after}
use Rattle.desk.specs.Machine.{Machine, is_among, handed, alone_after}
use Rattle.desk.specs.Demands.{desk, standing_after, Turn, World, after, turn, turns, at_opening, after_opening, overridden, Demand3}
use Rattle.desk.proofs.general.Cases.{cond_cases}
use Rattle.desk.proofs.watching.Places.{take_places}
use Rattle.desk.proofs.openings.AcceptedOpening.{open_accepted}
use Rattle.desk.proofs.machines.ReadsCommands.{frames_handed}
use Rattle.desk.proofs.acting.RefusalLaws.{Accepted}
use Rattle.desk.proofs.acting.CallLaws.{outcome_cases}
use Rattle.desk.proofs.machines.Overrides.{Desired}
use Rattle.desk.proofs.acting.PlanLaws.{watched_id}
use Rattle.desk.proofs.machines.Steps.{due, outcome_step}
use Rattle.desk.proofs.watching.WatchLists.{id_not_zero}

-- ---- the override that stands is the record's
abbrev standing : Desk → List ℕ
standing d = cond (stands d) (d.override_id ∷ []) []

abbrev Follows : Call → Desk → Outcome (List Command) → Type 0
Follows c d o = standing o.desk ≡ standing_after c o.code (standing d)

refused_follows : (c : Call) (n : ℕ) (x : List ℕ) → 2 ≤ n → x ≡ standing_after c n x
unfolding standing_after
refused_follows (Call.Down m) n x h = refl
refused_follows (Call.Up m) n x h = refl
refused_follows (Call.Start y) n x h = refl
refused_follows (Call.Stop y) n x h = refl
refused_follows (Call.Raise y) n x h = ap (λ b. cond b (y ∷ x) x) (sym (ne_eqb n 0 (λ e. omega arith)))
refused_follows Call.Clear n x h = ap (λ b. cond b [] x) (sym (ne_eqb n 0 (λ e. omega arith)))

plan_follows : (c : Call) (d : Desk) → Accepted c d → Follows c d (plan c d)
unfolding plan desk_after standing_after with_down with_up with_running with_override
plan_follows (Call.Down n) d ok = cond_cases (Follows (Call.Down n) d) (stands d) (λ _. refl) (λ _. refl)
plan_follows (Call.Up n) d ok = cond_cases (Follows (Call.Up n) d) (stands d) (λ _. refl) (λ _. refl)
plan_follows (Call.Start x) d ok = cond_cases (Follows (Call.Start x) d) (stands d) (λ _. refl) (λ _. refl)
plan_follows (Call.Stop x) d ok = cond_cases (Follows (Call.Stop x) d) (stands d) (λ _. refl) (λ _. refl)
plan_follows (Call.Raise x) d ok =
    ap (λ b. cond (not b) (x ∷ []) []) (id_not_zero x (watched_id (Call.Raise x) d x ok refl))
    ∙ ap (λ b. x ∷ cond b (d.override_id ∷ []) []) (sym ok.first)
plan_follows Call.Clear d ok = refl

outcome_follows : (c : Call) (room : ℕ) (d : Desk) → standing (outcome c room d).desk ≡ standing_after c (outcome c room d).code (standing d)
unfolding framed
outcome_follows c room d =
    let k = outcome_cases (Follows c d) c room d (λ n r. refused_follows c n (standing d) r.large) (plan_follows c d) in
    ap (λ (o : Outcome (List ℕ)). standing o.desk) k.is
    ∙ k.holds
    ∙ ap (λ (o : Outcome (List ℕ)). standing_after c o.code (standing d)) (sym k.is)

-- ---- a refused or held call gives the daemon nothing
abbrev Gives : Outcome (List Command) → Type 0
Gives o = (eqb o.code 0 || eqb (length (frames_of o.sent)) 0) ≡ true

outcome_gives : (c : Call) (room : ℕ) (d : Desk) → (eqb (outcome c room d).code 0 || eqb (length (outcome c room d).sent) 0) ≡ true
unfolding framed plan frames_of
outcome_gives c room d =
    let k = outcome_cases Gives c room d (λ n r. or-true (eqb n 0)) (λ ok. cond_cases Gives (deferred c d) (λ _. refl) (λ _. refl)) in
    ap (λ (o : Outcome (List ℕ)). eqb o.code 0 || eqb (length o.sent) 0) k.is ∙ k.holds

module _ (watch : List Watch) (others : ℕ → Bool) where
  -- the invariant
  record Invariant (w : World Desk) : Type 0 where
    wanted : Desired watch others w.record_now w.alone
    right : w.daemon ≡ some (due watch others w.alone w.record_now)
    follows : w.standing ≡ standing w.record_now

  turn_keeps : (t : Turn) (w : World Desk) → Invariant w → Invariant (turn desk t w)
  unfolding turn after returned buffer_after framed
  turn_keeps t w i =
      let c = t.call in
      let d = w.record_now in
      let o = outcome c (length t.buffer) d in
      let step = outcome_step watch others c (length t.buffer) d w.alone i.wanted in
      let code : o.code ≡ step.by.code = ap (λ (x : Outcome (List ℕ)). x.code) step.is in
      let desk-is : o.desk ≡ step.by.desk = ap (λ (x : Outcome (List ℕ)). x.desk) step.is in
      let sent : o.sent ≡ frames_of step.by.sent = ap (λ (x : Outcome (List ℕ)). x.sent) step.is in
      let alone : alone_after c o.code w.alone ≡ alone_after c step.by.code w.alone = ap (λ (n : ℕ). alone_after c n w.alone) code in
      record {
        wanted = subst (λ (x : Desk). Desired watch others x (alone_after c o.code w.alone)) (sym desk-is) (subst (Desired watch others step.by.desk) (sym alone) step.holds.desired);
        right =
            ap (λ b. cond b (handed (take (length o.sent) (o.sent ++ drop (length o.sent) t.buffer)) w.daemon) none) (outcome_gives c (length t.buffer) d)
            ∙ ap (λ (l : List ℕ). handed (take (length l) (l ++ drop (length l) t.buffer)) w.daemon) sent
            ∙ frames_handed step.by.sent (drop (length (frames_of step.by.sent)) t.buffer) w.daemon (due watch others w.alone d) step.holds.sendable i.right
            ∙ ap some (step.holds.obeyed ∙ ap₂ (due watch others) (sym alone) (sym desk-is));
        follows = ap (standing_after c o.code) i.follows ∙ sym (outcome_follows c (length t.buffer) d);
      }

  turns_keep : (ts : List Turn) (w : World Desk) → Invariant w → Invariant (turns desk ts w)
  unfolding turns
  turns_keep [] w i = i
  turns_keep (t ∷ ts) w i = turns_keep ts (turn desk t w) (turn_keeps t w i)

  -- it holds after an accepted opening
  opening_wanted : (down up : ℤ) → length watch ≤ most_watched → Desired watch others (opened_with (length watch) watch down up) (at_opening watch down up others)
  unfolding opened_with at_opening
  opening_wanted down up few =
      let used : take (length watch) (places most_watched watch) ≡ watch = take_places most_watched watch few in
      record { ids = λ x. ap (has x) used; down = refl; up = refl; runs = λ x. ap (λ (l : List Watch). cond (has x watch) (marked x l) (others x)) (sym used) }

  opening_invariant : (down up : ℤ) → (opening (length watch) watch down up).code ≡ 0 → Invariant (after_opening desk watch down up others)
  unfolding after_opening opened_with
  opening_invariant down up h =
      let a = open_accepted watch down up h in
      let m = at_opening watch down up others in
      record {
        wanted = subst (λ (d : Desk). Desired watch others d m) (sym a.desk) (opening_wanted down up a.few);
        right = ap (λ (d : Desk). some (due watch others m d)) (sym a.desk);
        follows = ap standing (sym a.desk);
      }

-- what the invariant says, by whether an override stands
none_stands : (b : Bool) (x : ℕ) (m o : Machine) → [] ≡ cond b (x ∷ []) [] → cond b o m ≡ m
none_stands true x m o e = absurd (nil≢cons e)
none_stands false x m o e = refl

one_stands : (b : Bool) (x y : ℕ) (m : Machine) (o : ℕ → Machine) → is_among y (cond b (x ∷ []) []) ≡ true → cond b (o x) m ≡ o y
unfolding is_among
one_stands true x y m o e = ap o (eqb-true x y (sym (or-false (eqb x y)) ∙ e))
one_stands false x y m o e = absurd (false≢true e)

pub demand_3 : Demand3
demand_3 watch down up others calls h =
    let w = turns desk calls (after_opening desk watch down up others) in
    let i = turns_keep watch others calls (after_opening desk watch down up others) (opening_invariant watch others down up h) in
    let d = w.record_now in (
      λ e. i.right ∙ ap some (none_stands (stands d) d.override_id w.alone (overridden watch others d.override_id) (sym e ∙ i.follows)),
      λ x e. i.right ∙ ap some (one_stands (stands d) d.override_id x w.alone (overridden watch others) (ap (is_among x) (sym i.follows) ∙ e)),
    )
