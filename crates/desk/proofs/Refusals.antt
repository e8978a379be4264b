-- Each number is given when its row holds, refusals keep the record and the lent buffer, a refused opening closes the desk,
-- and only a raise and a clear move the override.
-- Assumes nothing.
use Prim.Native.Nat.{ℕ, ◌≤◌, ◌<◌}
use native.Mathlib.Omega.{arith}
use mathlib.Core.Path.{◌≡◌, refl, sym, ap, ◌∙◌}
use mathlib.Core.Bool.{Bool, true, false, cond}
use mathlib.Core.List.{List, [], ◌++◌}
use lib.Dec.{eqb, leb}
use borrow.Author.Tests.{ne_eqb, eq-eqb, le-leb, lt-leb}
use lib.ListN.{length, drop}
use Rattle.desk.specs.declared.record.Desk.{Desk}
use Rattle.desk.specs.Record.{closed, opened_with, with_down, with_up, with_override, with_running}
use Rattle.desk.specs.Opening.{open_code, refused_opening, opening}
use Rattle.desk.specs.Command.{Command, frames_of}
use Rattle.desk.specs.Refusal.{stands, call_fault}
use Rattle.desk.specs.declared.call.Call.{Call}
use Rattle.desk.specs.Plan.{Outcome, desk_after, plan}
use Rattle.desk.specs.Calls.{refused, decided, framed, delivered, outcome, returned, buffer_after}
use Rattle.desk.specs.Demands.{override_after, NumbersGiven, OpeningGiven, RefusalKeeps, RefusalCloses, OverrideMoves}
use Rattle.desk.proofs.general.Cases.{by_cases, cond_cases}
use Rattle.desk.proofs.openings.AcceptedOpening.{opening_code}
use Rattle.desk.proofs.acting.CallLaws.{Comes, outcome_refused, outcome_cases}

-- an outcome that keeps the record where it refuses, and moves the override where it is accepted
record Kept (c : Call) (d : Desk) (o : Outcome (List Command)) : Type 0 where
  desk : 2 ≤ o.code → o.desk ≡ d
  sent : 2 ≤ o.code → o.sent ≡ []
  override : o.desk.override_id ≡ override_after c o.code d.override_id

refused_override : (c : Call) (n id : ℕ) → 2 ≤ n → id ≡ override_after c n id
unfolding override_after
refused_override (Call.Down m) n id h = refl
refused_override (Call.Up m) n id h = refl
refused_override (Call.Start x) n id h = refl
refused_override (Call.Stop x) n id h = refl
refused_override (Call.Raise x) n id h = ap (λ b. cond b x id) (sym (ne_eqb n 0 (λ e. omega arith)))
refused_override Call.Clear n id h = ap (λ b. cond b 0 id) (sym (ne_eqb n 0 (λ e. omega arith)))

moves : (c : Call) (d : Desk) (n : ℕ) (next : Desk) (cs : List Command) → n ≤ 1 → next.override_id ≡ override_after c n d.override_id
    → Kept c d (record { code = n; desk = next; sent = cs })
moves c d n next cs small o = record { desk = λ h. absurd (omega arith); sent = λ h. absurd (omega arith); override = o }

-- an accepted call, by its code: 1 for a deferred one
plan_kept : (c : Call) (d : Desk) → Kept c d (plan c d)
unfolding plan desk_after override_after with_down with_up with_running with_override
plan_kept (Call.Down n) d = cond_cases (Kept (Call.Down n) d) (stands d) (λ _. moves (Call.Down n) d 1 _ _ (omega arith) refl) (λ _. moves (Call.Down n) d 0 _ _ (omega arith) refl)
plan_kept (Call.Up n) d = cond_cases (Kept (Call.Up n) d) (stands d) (λ _. moves (Call.Up n) d 1 _ _ (omega arith) refl) (λ _. moves (Call.Up n) d 0 _ _ (omega arith) refl)
plan_kept (Call.Start x) d = cond_cases (Kept (Call.Start x) d) (stands d) (λ _. moves (Call.Start x) d 1 _ _ (omega arith) refl) (λ _. moves (Call.Start x) d 0 _ _ (omega arith) refl)
plan_kept (Call.Stop x) d = cond_cases (Kept (Call.Stop x) d) (stands d) (λ _. moves (Call.Stop x) d 1 _ _ (omega arith) refl) (λ _. moves (Call.Stop x) d 0 _ _ (omega arith) refl)
plan_kept (Call.Raise x) d = moves (Call.Raise x) d 0 _ _ (omega arith) refl
plan_kept Call.Clear d = moves Call.Clear d 0 _ _ (omega arith) refl

outcome_kept : (c : Call) (room : ℕ) (d : Desk) → Comes (Kept c d) c room d
outcome_kept c room d =
    outcome_cases (Kept c d) c room d
    (λ n k. record { desk = λ _. refl; sent = λ _. refl; override = refused_override c n d.override_id k.large })
    (λ _. plan_kept c d)

pub refusal_keeps : RefusalKeeps
unfolding framed returned buffer_after frames_of
refusal_keeps c before d h =
    let k = outcome_kept c (length before) d in
    let refused : 2 ≤ k.by.code = omega (arith, h, ap (λ (o : Outcome (List ℕ)). o.code) k.is) in
    let nothing : (outcome c (length before) d).sent ≡ [] = ap (λ (o : Outcome (List ℕ)). o.sent) k.is ∙ ap frames_of (k.holds.sent refused) in (
      ap (λ (o : Outcome (List ℕ)). o.desk) k.is ∙ k.holds.desk refused,
      ap length nothing,
      ap (λ (l : List ℕ). l ++ drop (length l) before) nothing,
    )

pub override_moves : OverrideMoves
unfolding framed
override_moves c room d =
    let k = outcome_kept c room d in
    ap (λ (o : Outcome (List ℕ)). o.desk.override_id) k.is
    ∙ k.holds.override
    ∙ ap (λ (n : ℕ). override_after c n d.override_id) (sym (ap (λ (o : Outcome (List ℕ)). o.code) k.is))

-- ---- each number is given when its row holds
module _ (c : Call) (room : ℕ) (d : Desk) where
  abbrev bytes : ℕ
  bytes = length (frames_of (plan c d).sent)

  code_refused : (call_fault c d ≡ 0 → ⊥) → (outcome c room d).code ≡ call_fault c d
  code_refused h = ap (λ (o : Outcome (List ℕ)). o.code) (outcome_refused c room d h)

  module _ (ok : call_fault c d ≡ 0) where
    code_planned : (outcome c room d).code ≡ cond (leb bytes room) (plan c d).code 34
    unfolding outcome decided framed delivered
    code_planned = rw (eq-eqb (call_fault c d) 0 ok) (cond_code (leb bytes room))
      where
        cond_code : (b : Bool) → (cond b (framed (plan c d)) (refused 34 d)).code ≡ cond b (plan c d).code 34
        cond_code true = refl
        cond_code false = refl

    code_short : room < bytes → (outcome c room d).code ≡ 34
    code_short h = code_planned ∙ ap (λ b. cond b (plan c d).code 34) (lt-leb bytes room h)

    code_accepted : bytes ≤ room → (outcome c room d).code ≡ (plan c d).code
    code_accepted h = code_planned ∙ ap (λ b. cond b (plan c d).code 34) (le-leb bytes room h)

pub numbers_given : NumbersGiven
numbers_given c room d = (code_refused c room d, code_short c room d, code_accepted c room d)

pub opening_given : OpeningGiven
opening_given watch down up = opening_code (length watch) watch down up

pub refusal_closes : RefusalCloses
unfolding opening refused_opening
refusal_closes n watch down up h =
    by_cases
    (λ b. eqb (open_code n watch down up) 0 ≡ b → ((cond b (record { code = 0; desk = opened_with n watch down up }) (refused_opening (open_code n watch down up))).code ≡ 0 → ⊥)
    → (cond b (record { code = 0; desk = opened_with n watch down up }) (refused_opening (open_code n watch down up))).desk ≡ closed)
    (eqb (open_code n watch down up) 0)
    (λ _ _ k. absurd (k refl))
    (λ _ _ k. refl)
    refl
    h
