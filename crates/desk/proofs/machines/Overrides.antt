-- What the commands of a raise and of a clear make of the daemon.
-- Assumes nothing.
use Prim.Native.Nat.{ℕ}
use mathlib.Core.Path.{◌≡◌, refl, sym, ap, ap₂, ◌∙◌}
use mathlib.Core.Bool.{Bool, true, false, cond, not, ◌&&◌, ◌||◌}
use mathlib.Core.List.{List, [], ◌∷◌}
use lib.Dec.{eqb}
use Rattle.desk.specs.declared.watch.Watch.{Watch}
use Rattle.desk.specs.declared.record.Desk.{Desk}
use Rattle.desk.specs.Limit.{unlimited}
use Rattle.desk.specs.Watch.{has, marked, filtered}
use Rattle.desk.specs.Record.{watched}
use Rattle.desk.specs.Plan.{raise_commands, clear_commands}
use Rattle.desk.specs.Machine.{Machine, is_among}
use Rattle.desk.specs.Demands.{overridden}
use Rattle.desk.proofs.general.Cases.{by_cases}
use Rattle.desk.proofs.watching.WatchLists.{has_apart, ids_ok}
use Rattle.desk.proofs.watching.FilteredIds.{unwatched_unlisted, others_listed, marked_listed}
use Rattle.desk.proofs.machines.CommandLaws.{obey_all, machine_path, four_obeyed}

-- an ID after the stop and the start of a clear, by its mark
restored : (desired before : Bool) → (desired || (not (not desired) && before)) ≡ desired
restored true before = refl
restored false before = refl

module _ (watch : List Watch) (others : ℕ → Bool) where
  -- a machine is as the record desires: its limits, the watched IDs by their marks, and the unwatched IDs as at opening
  pub record Desired (d : Desk) (m : Machine) : Type 0 where
    pub ids : (x : ℕ) → has x (watched d) ≡ has x watch
    pub down : m.down ≡ d.down
    pub up : m.up ≡ d.up
    pub runs : (x : ℕ) → m.runs x ≡ cond (has x watch) (marked x (watched d)) (others x)

  -- a machine's unwatched IDs are as at opening, whatever its limits and its watched IDs
  abbrev pub UnwatchedKept : Machine → Type 0
  UnwatchedKept m = (y : ℕ) → has y watch ≡ false → m.runs y ≡ others y

  pub desired_kept : (d : Desk) (m : Machine) → Desired d m → UnwatchedKept m
  desired_kept d m want y h = want.runs y ∙ ap (λ b. cond b (marked y (watched d)) (others y)) h

  pub overridden_kept : (x : ℕ) → has x watch ≡ true → UnwatchedKept (overridden watch others x)
  unfolding overridden
  overridden_kept x g y h = ap₂ (λ a b. a || (not b && others y)) (has_apart x y watch g h) h

  -- a raise brings any such machine under the override
  pub raise_obeyed : (d : Desk) (m : Machine) (x : ℕ) → ((y : ℕ) → has y (watched d) ≡ has y watch) → UnwatchedKept m
      → obey_all (raise_commands x d) m ≡ overridden watch others x
  unfolding raise_commands overridden is_among
  raise_obeyed d m x ids kept =
      let rest = filtered (λ w. not (eqb w.id x)) (watched d) in
      four_obeyed unlimited unlimited rest (x ∷ []) m
      ∙ machine_path _ _ refl refl
      (λ y.
      by_cases (λ b. eqb x y ≡ b → ((b || false) || (not (is_among y rest) && m.runs y)) ≡ (b || (not (has y watch) && others y))) (eqb x y)
      (λ _ e. refl)
      (λ _ e.
      ap (λ b. not b && m.runs y) (others_listed x y (watched d) e ∙ ids y)
      ∙ by_cases (λ b. has y watch ≡ b → (not b && m.runs y) ≡ (not b && others y)) (has y watch) (λ _ _. refl) (λ _ h. kept y h) refl)
      refl)

  -- a clear brings any such machine to what is desired
  pub clear_obeyed : (d : Desk) (m desired : Machine) → Desired d desired → ids_ok (watched d) ≡ true → UnwatchedKept m
      → obey_all (clear_commands d) m ≡ desired
  unfolding clear_commands
  clear_obeyed d m desired want k kept =
      let stops = filtered (λ w. not w.running) (watched d) in
      let starts = filtered (λ w. w.running) (watched d) in
      four_obeyed d.down d.up stops starts m
      ∙ machine_path _ desired (sym want.down) (sym want.up)
      (λ y.
      by_cases
      (λ b. has y watch ≡ b → (is_among y starts || (not (is_among y stops) && m.runs y)) ≡ cond b (marked y (watched d)) (others y))
      (has y watch)
      (λ _ e.
      let h = want.ids y ∙ e in
      ap₂ (λ a b. a || (not b && m.runs y)) (marked_listed y (λ b. b) (watched d) k h) (marked_listed y not (watched d) k h)
      ∙ restored (marked y (watched d)) (m.runs y))
      (λ _ e.
      let h = want.ids y ∙ e in
      ap₂ (λ a b. a || (not b && m.runs y)) (unwatched_unlisted y (λ w. w.running) (watched d) h) (unwatched_unlisted y (λ w. not w.running) (watched d) h)
      ∙ kept y e)
      refl
      ∙ sym (want.runs y))
