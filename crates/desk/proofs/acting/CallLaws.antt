-- Laws of a call's outcome: the three ways through it, what its function returns and leaves in each, and one proof by cases for
-- every statement about all calls.
-- Assumes nothing.
use Rattle.std.specs.Prelude.{Result, Ok}
use Prim.Native.Nat.{ℕ, ◌≤◌, ◌<◌}
use mathlib.Core.Path.{◌≡◌, refl, sym, ap, subst, ◌∙◌}
use mathlib.Core.Bool.{true, false, cond}
use mathlib.Core.List.{List, []}
use native.Mathlib.Omega.{arith}
use borrow.Author.Tests.{eq-eqb, ne_eqb, eqb-true, eqb-false, le-leb, lt-leb}
use lib.Dec.{eqb, leb}
use lib.ListN.{length}
use Rattle.octets.specs.Put.{Put}
use Rattle.octets.proofs.writing.PutLaws.{put_wrote, wrote_front}
use Rattle.desk.specs.declared.call.Call.{Call}
use Rattle.desk.specs.declared.record.Desk.{Desk}
use Rattle.desk.specs.declared.done.Accepted.{Accepted as Answer}
use Rattle.desk.specs.declared.done.Refusal.{Refusal}
use Rattle.desk.specs.Codes.{refusal_code, answer_code, answer_count}
use Rattle.desk.specs.Record.{sound}
use Rattle.desk.specs.Command.{Command, frames_of}
use Rattle.desk.specs.Refusal.{call_fault}
use Rattle.desk.specs.Plan.{Outcome, deferred, desk_after, commands_of, plan}
use Rattle.desk.specs.Calls.{refused, accepted, decided, framed, delivered, outcome, buffer_after, Answered}
use Rattle.desk.proofs.general.Cases.{by_cases, cond_cases}
use Rattle.desk.proofs.acting.RefusalLaws.{Accepted, accepted_call, fault_code, fault_sound}

-- ---- what the function answers and leaves
-- nothing is sent
pub nothing_sent : {o : Outcome (List ℕ)} {before : List ℕ} {r : Result Answer Refusal} (p : Outcome (List ℕ)) → o ≡ p → p.sent ≡ [] → answer_code r ≡ p.code → answer_count r ≡ 0
    → Answered o before r before
unfolding buffer_after
nothing_sent {before = before} p e n a k = record { code = rw e a; count = rw (e, n) k; buffer = rw (e, n) refl }

-- the same outcome
pub answered_as : {o p : Outcome (List ℕ)} {before after : List ℕ} {r : Result Answer Refusal} → o ≡ p → Answered p before r after → Answered o before r after
answered_as {before} {after} {r} q w = subst (λ (o : Outcome (List ℕ)). Answered o before r after) (sym q) w

module _ (d next : Desk) (bytes before : List ℕ) where
  pub delivered_short : length before < length bytes → delivered (length before) d (accepted next bytes) ≡ refused 34 d
  unfolding delivered
  delivered_short h = rw (lt-leb (length bytes) (length before) h) refl

  pub delivered_put : {after : List ℕ} {n : ℕ} → length bytes ≤ length before → Put before 0 bytes after n
      → Answered (delivered (length before) d (accepted next bytes)) before (Ok (Answer.Sent n)) after
  unfolding delivered buffer_after
  delivered_put {after} {n} h p =
      let w = put_wrote (omega arith) p in
      let fits : leb (length bytes) (length before) ≡ true = le-leb (length bytes) (length before) h in
      let counted : n ≡ length bytes = omega (arith, w.ended) in
      record { code = rw fits refl; count = rw (fits, counted) refl; buffer = rw fits (wrote_front h w) }

-- frames that have room
pub delivered_whole : (room : ℕ) (d next : Desk) (bytes : List ℕ) → length bytes ≤ room → delivered room d (accepted next bytes) ≡ accepted next bytes
unfolding delivered
delivered_whole room d next bytes h = rw (le-leb (length bytes) room h) refl

-- nothing needs no room
delivered_nothing : (room : ℕ) (d : Desk) (o : Outcome (List ℕ)) → o.sent ≡ [] → delivered room d o ≡ o
unfolding delivered
delivered_nothing room d o e = ap (λ b. cond b o (refused 34 d)) (le-leb (length o.sent) room (omega (arith, ap length e)))

-- ---- the three ways through a call
module _ (c : Call) (room : ℕ) (d : Desk) where
  -- a call is what it was decided to be, in the room that it is lent
  outcome_by : (o : Outcome (List Command)) → decided c d ≡ o → outcome c room d ≡ delivered room d (framed o)
  unfolding outcome
  outcome_by o e = ap (λ (p : Outcome (List Command)). delivered room d (framed p)) e

  pub outcome_refused : (call_fault c d ≡ 0 → ⊥) → outcome c room d ≡ refused (call_fault c d) d
  unfolding decided framed frames_of
  outcome_refused h = outcome_by (refused (call_fault c d) d) (rw (ne_eqb (call_fault c d) 0 h) refl) ∙ delivered_nothing room d (refused (call_fault c d) d) refl

  module _ (ok : call_fault c d ≡ 0) where
    pub outcome_deferred : deferred c d ≡ true → outcome c room d ≡ record { code = 1; desk = desk_after c d; sent = [] }
    unfolding decided framed plan frames_of
    outcome_deferred h =
        outcome_by (record { code = 1; desk = desk_after c d; sent = [] }) (rw (eq-eqb (call_fault c d) 0 ok, h) refl)
        ∙ delivered_nothing room d (record { code = 1; desk = desk_after c d; sent = [] }) refl

    pub outcome_sends : deferred c d ≡ false → outcome c room d ≡ delivered room d (accepted (desk_after c d) (frames_of (commands_of c d)))
    unfolding decided framed plan
    outcome_sends h = outcome_by (accepted (desk_after c d) (commands_of c d)) (rw (eq-eqb (call_fault c d) 0 ok, h) refl)

-- ---- all calls
-- a code of a refusal; 38 comes of a record that is not sound
pub record RefusalCode (d : Desk) (code : ℕ) : Type 0 where
  pub large : 2 ≤ code
  pub other : sound d ≡ true → code ≡ 38 → ⊥

-- what a call comes to by its commands, with what holds of them
pub record Comes (P : Outcome (List Command) → Type 0) (c : Call) (room : ℕ) (d : Desk) : Type 0 where
  pub by : Outcome (List Command)
  pub is : outcome c room d ≡ framed by
  pub holds : P by

room_code : (d : Desk) → RefusalCode d 34
room_code d = record { large = omega arith; other = λ _ e. omega arith }

-- what holds of each refusal and of the plan holds of every call
module _ (P : Outcome (List Command) → Type 0) (c : Call) (room : ℕ) (d : Desk) (refusal : (code : ℕ) → RefusalCode d code → P (refused code d)) (planned : Accepted c d → P (plan c d)) where
  decided_holds : P (decided c d)
  unfolding decided
  decided_holds =
      cond_cases P (eqb (call_fault c d) 0)
      (λ e. planned (accepted_call c d (eqb-true (call_fault c d) 0 e)))
      (λ e. refusal (call_fault c d) (record { large = fault_code c d (eqb-false (call_fault c d) 0 e); other = fault_sound c d }))

  pub outcome_cases : Comes P c room d
  unfolding outcome delivered framed frames_of
  outcome_cases =
      by_cases (λ b. leb (length (frames_of (decided c d).sent)) room ≡ b → Comes P c room d) (leb (length (frames_of (decided c d).sent)) room)
      (λ _ e. record { by = decided c d; is = rw e refl; holds = decided_holds })
      (λ _ e. record { by = refused 34 d; is = rw e refl; holds = refusal 34 (room_code d) })
      refl

-- ---- the record after a call, by its answer's number
abbrev Recorded : Call → Desk → Outcome (List Command) → Type 0
Recorded c d o = (o.code ≤ 1 → o.desk ≡ desk_after c d) × (2 ≤ o.code → o.desk ≡ d)

plan_recorded : (c : Call) (d : Desk) → Recorded c d (plan c d)
unfolding plan
plan_recorded c d = cond_cases (Recorded c d) (deferred c d) (λ _. (λ _. refl, λ h. absurd (omega arith))) (λ _. (λ _. refl, λ h. absurd (omega arith)))

module _ (c : Call) (room : ℕ) (d : Desk) where
  recorded : Comes (Recorded c d) c room d
  recorded = outcome_cases (Recorded c d) c room d (λ n k. (λ h. absurd (omega (arith, k.large)), λ _. refl)) (λ _. plan_recorded c d)

  pub outcome_changes : (outcome c room d).code ≤ 1 → (outcome c room d).desk ≡ desk_after c d
  unfolding framed
  outcome_changes h =
      let k = recorded in
      ap (λ (o : Outcome (List ℕ)). o.desk) k.is ∙ k.holds.0 (omega (arith, h, ap (λ (o : Outcome (List ℕ)). o.code) k.is))

  pub outcome_keeps : 2 ≤ (outcome c room d).code → (outcome c room d).desk ≡ d
  unfolding framed
  outcome_keeps h =
      let k = recorded in
      ap (λ (o : Outcome (List ℕ)). o.desk) k.is ∙ k.holds.1 (omega (arith, h, ap (λ (o : Outcome (List ℕ)). o.code) k.is))

-- an accepted answer has 0 or 1, a refusal 30 or more
abbrev small_answer : Answer → Type 0
small_answer a = let r : Result Answer Refusal = Ok a in answer_code r ≤ 1

pub accepted_small : (a : Answer) → small_answer a
accepted_small (Answer.Sent n) = omega arith
accepted_small Answer.Deferred = omega arith

pub refusal_large : (e : Refusal) → 2 ≤ refusal_code e
refusal_large Refusal.Limit = omega arith
refusal_large Refusal.Unwatched = omega arith
refusal_large Refusal.Stands = omega arith
refusal_large Refusal.NoneStands = omega arith
refusal_large Refusal.Room = omega arith
refusal_large Refusal.Record = omega arith
