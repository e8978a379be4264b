-- Statements: desks that are worthless or wrong fall by demand 1 or demand 3 itself (document 01, 'What each result must
-- determine' and 'Easy ways to go wrong').
-- Assumes nothing.
use Rattle.std.specs.Prelude.{ℕ, ◌≤◌, ◌≡◌, Bool, true, false, cond, ◌&&◌, List, [], eqb, leb, ℤ, length}
use Rattle.desk.specs.declared.call.Call.{Call}
use Rattle.desk.specs.declared.record.Desk.{Desk}
use Rattle.desk.specs.declared.watch.Watch.{Watch}
use Rattle.desk.specs.Record.{with_override}
use Rattle.desk.specs.Opening.{opening}
use Rattle.desk.specs.Command.{frames_of}
use Rattle.desk.specs.Refusal.{stands, raises_again}
use Rattle.desk.specs.Plan.{Outcome, commands_of}
use Rattle.desk.specs.Calls.{outcome, returned, buffer_after}
use Rattle.desk.specs.Demands.{Answered, Build, build_of, NumbersGivenFor, OpeningGivenFor, Demand3For}

-- ---- by demand 1
-- a desk that refuses always, by whatever numbers
abbrev pub AlwaysRefusesFalls : Type 0
AlwaysRefusesFalls = (code : Call → ℕ → Desk → ℕ) → ((c : Call) (room : ℕ) (d : Desk) → 2 ≤ code c room d) → NumbersGivenFor code → ⊥

-- one that refuses every opening
abbrev pub NeverOpensFalls : Type 0
NeverOpensFalls = (code : List Watch → ℤ → ℤ → ℕ) → ((watch : List Watch) (down up : ℤ) → code watch down up ≡ 0 → ⊥) → OpeningGivenFor code → ⊥

-- ---- by demand 3
-- a desk that records but never writes
abbrev silent : Outcome (List ℕ) → Outcome (List ℕ)
silent o = record { code = o.code; desk = o.desk; sent = [] }

unfoldable pub never_writes : Build
never_writes = build_of (λ c room d. silent (outcome c room d))

abbrev pub NeverWritesFalls : Type 0
NeverWritesFalls = Demand3For never_writes → ⊥

-- one whose deferred requests are written all the same
unfoldable pub deferred_writes : Build
deferred_writes = build_of (λ c room d.
    let o = outcome c room d in
    cond (eqb o.code 1) (record { code = 1; desk = o.desk; sent = frames_of (commands_of c d) }) o)

abbrev pub DeferredWritesFalls : Type 0
DeferredWritesFalls = Demand3For deferred_writes → ⊥

-- an outcome on another record than the one handed in; a refusal returns that one
abbrev kept_if_refused : Desk → Outcome (List ℕ) → Outcome (List ℕ)
kept_if_refused d o = cond (leb o.code 1) o (record { code = o.code; desk = d; sent = o.sent })

-- one in which a second raise moves the override
unfoldable pub second_raise : Build
second_raise = build_of (λ c room d. kept_if_refused d (outcome c room (cond (raises_again c d) (with_override 0 d) d)))

abbrev pub SecondRaiseFalls : Type 0
SecondRaiseFalls = Demand3For second_raise → ⊥

-- a record with another one beside it, or a mark
pub record Beside (A : Type 0) : Type 0 where
  pub now : Desk
  pub kept : A

abbrev answered : {A : Type 0} → Outcome (List ℕ) → List ℕ → A → Answered (Beside A)
answered o before kept =
    record { code = (returned o).code; count = (returned o).count; record_after = record { now = (returned o).desk; kept = kept }; buffer = buffer_after o before }

abbrev is_clear : Call → Bool
is_clear (Call.Down n) = false
is_clear (Call.Up n) = false
is_clear (Call.Start x) = false
is_clear (Call.Stop x) = false
is_clear (Call.Raise x) = false
is_clear Call.Clear = true

abbrev is_raise : Call → Bool
is_raise (Call.Down n) = false
is_raise (Call.Up n) = false
is_raise (Call.Start x) = false
is_raise (Call.Stop x) = false
is_raise (Call.Raise x) = true
is_raise Call.Clear = false

-- one that restores after the first raise only: from the second clear on it writes nothing
unfoldable pub restores_once : Build
restores_once = record {
  Record = Beside Bool;
  opened = λ watch down up. record { now = (opening (length watch) watch down up).desk; kept = false };
  called = λ c before r.
      let o = outcome c (length before) r.now in
      answered (cond (is_clear c && r.kept) (silent o) o) before (cond (is_clear c && eqb o.code 0) true r.kept);
}

abbrev pub RestoresOnceFalls : Type 0
RestoresOnceFalls = Demand3For restores_once → ⊥

-- one that restores a copy taken at the raise
unfoldable pub restores_copy : Build
restores_copy = record {
  Record = Beside Desk;
  opened = λ watch down up. let d = (opening (length watch) watch down up).desk in record { now = d; kept = d };
  called = λ c before r.
      let o = kept_if_refused r.now (outcome c (length before) (cond (is_clear c && stands r.now) r.kept r.now)) in
      answered o before (cond (is_raise c && eqb o.code 0) o.desk r.kept);
}

abbrev pub RestoresCopyFalls : Type 0
RestoresCopyFalls = Demand3For restores_copy → ⊥
