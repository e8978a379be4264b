-- One call: from machines as demand 3 has them before it to machines as demand 3 has them after it, by its commands.
-- Assumes nothing.
use Prim.Native.Nat.{ℕ, ◌≤◌}
use native.Mathlib.Omega.{arith}
use mathlib.Core.Path.{◌≡◌, refl, sym, ap, ◌∙◌, subst}
use mathlib.Core.Bool.{Bool, true, false, cond, not, ◌&&◌, ◌||◌}
use mathlib.Core.List.{List, [], ◌∷◌}
use lib.Dec.{leb, eqb}
use lib.ListN.{take, set, length-take}
use lib.Seq.{take-set-lt}
use borrow.Author.Tests.{eqb-true, lt-leb, not-true, not-false}
use Rattle.desk.specs.declared.watch.Watch.{Watch}
use Rattle.desk.specs.declared.record.Desk.{Desk}
use Rattle.desk.specs.Limit.{is_limit, unlimited}
use Rattle.desk.specs.Watch.{has, place, marked, filtered}
use Rattle.desk.specs.Record.{watched, sound, with_down, with_up, with_override, with_running}
use Rattle.desk.specs.Command.{Command}
use Rattle.desk.specs.declared.call.Call.{Call}
use Rattle.desk.specs.Refusal.{stands}
use Rattle.desk.specs.Plan.{Outcome, desk_after, commands_of, raise_commands, clear_commands, plan}
use Rattle.desk.specs.Calls.{refused, accepted}
use Rattle.desk.specs.Machine.{Machine, is_among, obey, request, alone_after}
use Rattle.desk.specs.Demands.{overridden}
use Rattle.desk.proofs.general.Cases.{by_cases, cond_cases}
use Rattle.desk.proofs.watching.WatchLists.{entry, has_set, marked_set, place_below, has_id_lem, id_not_zero}
use Rattle.desk.proofs.records.SoundLaws.{sound_parts, watched_length, pick_ids_lem, pick_length}
use Rattle.desk.proofs.machines.CommandLaws.{FewIds, Sendable, AllSendable, obey_all, one_id, four_sendable}
use Rattle.desk.proofs.machines.Overrides.{Desired, desired_kept, overridden_kept, raise_obeyed, clear_obeyed}
use Rattle.desk.proofs.acting.RefusalLaws.{Accepted}
use Rattle.desk.proofs.acting.CallLaws.{Comes, outcome_cases}

-- a start or stop of one ID
started : (b r : Bool) → ((b || false) || r) ≡ cond b true r
started true r = refl
started false r = refl

stopped : (b r : Bool) → (not (b || false) && r) ≡ cond b false r
stopped true r = refl
stopped false r = refl

-- the IDs that a start or stop of a sound record lists
pick_few : (p : Watch → Bool) (d : Desk) → sound d ≡ true → FewIds (filtered p (watched d))
pick_few p d h = (
  pick_ids_lem p (watched d) (sound_parts d h).ids,
  omega (arith, pick_length p (watched d), watched_length d h),
)

module _ (watch : List Watch) (others : ℕ → Bool) where
  -- the daemon that demand 3 asks for, by the machine of the routine requests alone and the desk's record
  abbrev pub due : Machine → Desk → Machine
  due m d = cond (stands d) (overridden watch others d.override_id) m

  -- a call with an outcome: the machine of the routine requests is as desired again, and its commands are sendable and bring the
  -- daemon to what demand 3 asks for
  pub record Step (c : Call) (d : Desk) (m : Machine) (o : Outcome (List Command)) : Type 0 where
    pub desired : Desired watch others o.desk (alone_after c o.code m)
    pub sendable : AllSendable o.sent
    pub obeyed : obey_all o.sent (due m d) ≡ due (alone_after c o.code m) o.desk

  -- a refusal
  refused_step : (c : Call) (d : Desk) (m : Machine) (n : ℕ) → 2 ≤ n → Desired watch others d m → Step c d m (refused n d)
  unfolding alone_after obey_all
  refused_step c d m n large want =
      let same : cond (leb n 1) (request c m) m ≡ m = ap (λ b. cond b (request c m) m) (lt-leb n 1 (omega arith)) in
      record {
        desired = subst (Desired watch others d) (sym same) want;
        sendable = tt;
        obeyed = ap (λ (k : Machine). due k d) (sym same);
      }

  -- a routine request, whose own command is a
  routine_step : (c : Call) (d : Desk) (m : Machine) (next : Desk) (a : Command) → request c m ≡ obey a m → Sendable a
      → Desired watch others next (obey a m) → next.override_id ≡ d.override_id
      → Step c d m (cond (stands d) (record { code = 1; desk = next; sent = [] }) (record { code = 0; desk = next; sent = a ∷ [] }))
  unfolding obey_all alone_after
  routine_step c d m next a req ok want same =
      let want' : Desired watch others next (request c m) = subst (Desired watch others next) (sym req) want in
      let after : due (request c m) next ≡ due (request c m) d = ap (λ (x : ℕ). cond (not (eqb x 0)) (overridden watch others x) (request c m)) same in
      cond_cases (Step c d m) (stands d)
      (λ s. record {
        desired = want';
        sendable = tt;
        obeyed =
            ap (λ b. cond b (overridden watch others d.override_id) m) s
            ∙ ap (λ b. cond b (overridden watch others d.override_id) (request c m)) (sym s)
            ∙ sym after;
      })
      (λ s. record {
        desired = want';
        sendable = (ok, tt);
        obeyed =
            ap (λ b. obey a (cond b (overridden watch others d.override_id) m)) s
            ∙ sym req
            ∙ ap (λ b. cond b (overridden watch others d.override_id) (request c m)) (sym s)
            ∙ sym after;
      })

  -- the record with another running mark, and the machine that started or stopped that ID
  running_desired : (d : Desk) (m : Machine) (x : ℕ) (on : Bool) (c : Command) → Desired watch others d m → has x (watched d) ≡ true
      → (obey c m).down ≡ m.down → (obey c m).up ≡ m.up → ((y : ℕ) → (obey c m).runs y ≡ cond (eqb x y) on (m.runs y))
      → Desired watch others (with_running x on d) (obey c m)
  unfolding with_running
  running_desired d m x on c want h same-down same_up runs =
      let short : take d.count (set d.watch (place x (watched d)) (entry x on)) ≡ set (watched d) (place x (watched d)) (entry x on) =
      take-set-lt d.count d.watch (place x (watched d)) (entry x on)
      (omega (arith, place_below x (watched d) h, length-take d.count d.watch)) in
      record {
        ids = λ y. ap (has y) short ∙ has_set x y on (watched d) ∙ want.ids y;
        down = same-down ∙ want.down;
        up = same_up ∙ want.up;
        runs = λ y.
            runs y
            ∙ by_cases (λ b. eqb x y ≡ b → cond b on (m.runs y) ≡ cond (has y watch) (cond b on (marked y (watched d))) (others y)) (eqb x y)
            (λ _ e. ap (λ b. cond b on (others y)) (sym (sym (want.ids y) ∙ ap (λ z. has z (watched d)) (sym (eqb-true x y e)) ∙ h)))
            (λ _ e. want.runs y)
            refl
            ∙ ap (λ r. cond (has y watch) r (others y)) (sym (ap (marked y) short ∙ marked_set x y on (watched d) h));
      }

  -- the override's ID moves nothing else
  override_desired : (d : Desk) (m : Machine) (x : ℕ) → Desired watch others d m → Desired watch others (with_override x d) m
  unfolding with_override
  override_desired d m x want = record { ids = want.ids; down = want.down; up = want.up; runs = want.runs }

  -- the override of a sound record is on a watched ID
  override_watched : (d : Desk) (m : Machine) → sound d ≡ true → Desired watch others d m → stands d ≡ true → has d.override_id watch ≡ true
  override_watched d m s want standing =
      sym (want.ids d.override_id)
      ∙ ap (λ b. b || has d.override_id (watched d)) (sym (not-true (eqb d.override_id 0) standing))
      ∙ (sound_parts d s).override

  raise_step : (d : Desk) (m : Machine) (y : ℕ) → Accepted (Call.Raise y) d → Desired watch others d m
      → Step (Call.Raise y) d m (accepted (with_override y d) (raise_commands y d))
  unfolding request with_override raise_commands is_limit alone_after
  raise_step d m y ok want =
      let y-id = has_id_lem y (watched d) (sound_parts d ok.is_sound).ids ok.id in
      record {
        desired = override_desired d m y want;
        sendable = four_sendable unlimited unlimited _ (y ∷ []) refl refl (pick_few (λ v. not (eqb v.id y)) d ok.is_sound) (one_id y y-id);
        obeyed =
            ap (λ b. obey_all (raise_commands y d) (cond b (overridden watch others d.override_id) m)) ok.first
            ∙ raise_obeyed watch others d m y want.ids (desired_kept watch others d m want)
            ∙ ap (λ b. cond (not b) (overridden watch others y) m) (sym (id_not_zero y y-id));
      }

  clear_step : (d : Desk) (m : Machine) → Accepted Call.Clear d → Desired watch others d m
      → Step Call.Clear d m (accepted (with_override 0 d) (clear_commands d))
  unfolding request with_override clear_commands alone_after
  clear_step d m ok want =
      let parts = sound_parts d ok.is_sound in
      let standing : stands d ≡ true = not-false (stands d) ok.some_stands in
      record {
        desired = override_desired d m 0 want;
        sendable = four_sendable d.down d.up _ _ parts.down parts.up (pick_few (λ v. not v.running) d ok.is_sound) (pick_few (λ v. v.running) d ok.is_sound);
        obeyed =
            ap (λ b. obey_all (clear_commands d) (cond b (overridden watch others d.override_id) m)) standing
            ∙ clear_obeyed watch others d (overridden watch others d.override_id) m want parts.ids
            (overridden_kept watch others d.override_id (override_watched d m ok.is_sound want standing));
      }

  -- an accepted call
  plan_step : (c : Call) (d : Desk) (m : Machine) → Desired watch others d m → Accepted c d → Step c d m (plan c d)
  unfolding plan desk_after commands_of request obey is_among with_down with_up
  plan_step (Call.Down n) d m want ok =
      routine_step (Call.Down n) d m (with_down n d) (Command.set_down n) refl ok.limit
      (record { ids = want.ids; down = refl; up = want.up; runs = want.runs }) refl
  plan_step (Call.Up n) d m want ok =
      routine_step (Call.Up n) d m (with_up n d) (Command.set_up n) refl ok.limit
      (record { ids = want.ids; down = want.down; up = refl; runs = want.runs }) refl
  plan_step (Call.Start y) d m want ok = unfold with_running in
      routine_step (Call.Start y) d m (with_running y true d) (Command.start (y ∷ [])) refl (one_id y (has_id_lem y (watched d) (sound_parts d ok.is_sound).ids ok.id))
      (running_desired d m y true (Command.start (y ∷ [])) want ok.id refl refl (λ z. started (eqb y z) (m.runs z))) refl
  plan_step (Call.Stop y) d m want ok = unfold with_running in
      routine_step (Call.Stop y) d m (with_running y false d) (Command.stop (y ∷ [])) refl (one_id y (has_id_lem y (watched d) (sound_parts d ok.is_sound).ids ok.id))
      (running_desired d m y false (Command.stop (y ∷ [])) want ok.id refl refl (λ z. stopped (eqb y z) (m.runs z))) refl
  plan_step (Call.Raise y) d m want ok = raise_step d m y ok want
  plan_step Call.Clear d m want ok = clear_step d m ok want

  -- every call is a step, by the commands that it sends
  pub outcome_step : (c : Call) (room : ℕ) (d : Desk) (m : Machine) → Desired watch others d m → Comes (Step c d m) c room d
  outcome_step c room d m want = outcome_cases (Step c d m) c room d (λ n k. refused_step c d m n k.large want) (plan_step c d m want)
