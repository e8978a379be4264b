-- `desk::record::Desk::put_commands` meets its contract: each arm puts the frames of its call.
-- Assumes nothing.
use Rattle.std.proofs.Common.{rules}
use mathlib.Core.Path.{refl}
use mathlib.Core.Logic.{inl, inr}
use mathlib.Core.List.{[], ◌∷◌}
use native.Mathlib.Omega.{arith}
use mir.Syntax.{w32}
use mir.Val.{SFits}
use mir.ValLaws.{to_z-of_z}
use Rattle.desk.specs.declared.call.Call.{Call}
use Rattle.desk.specs.Limit.{is_limit}
use Rattle.desk.specs.Command.{Command, command_frame, listed_frame}
use Rattle.desk.specs.Plan.{raise_commands, clear_commands, commands_of}
use Rattle.desk.proofs.writing.FrameParts.{raise_length, clear_length}
use Rattle.desk.proofs.acting.PlanLaws.{watched_alone, commands_length, put_one_frame}
use Rattle.desk.proofs.acting.RefusalLaws.{accepted_as}
use Rattle.desk.proofs.records.SoundLaws.{sound_parts}
use Rattle.desk.proofs.record.Desk.put_commands.Goals as goal

pub put_limit-requires : goal.put_limit-requires
put_limit-requires c =
    let ok = accepted_as c.args.self.now c.in-Down.is c.requires.0 in
    let fits : SFits w32 c.in-Down.limit = search rules in
    (inl refl, rw (to_z-of_z w32 c.in-Down.limit fits) ok.limit)

pub put_limit-requires-in-Up : goal.put_limit-requires-in-Up
put_limit-requires-in-Up c =
    let ok = accepted_as c.args.self.now c.in-Up.is c.requires.0 in
    let fits : SFits w32 c.in-Up.limit = search rules in
    (inr refl, rw (to_z-of_z w32 c.in-Up.limit fits) ok.limit)

pub put_listed-requires : goal.put_listed-requires
put_listed-requires c = (inl refl, (accepted_as c.args.self.now c.in-Start.is c.requires.0).is_sound)

pub put_listed-requires-in-Stop : goal.put_listed-requires-in-Stop
put_listed-requires-in-Stop c = (inr refl, (accepted_as c.args.self.now c.in-Stop.is c.requires.0).is_sound)

pub put_all-requires : goal.put_all-requires
unfolding is_limit raise_commands
put_all-requires c =
    let d = c.args.self.now in
    let ok = accepted_as d c.in-Raise.is c.requires.0 in
    (ok.is_sound, refl, refl, rw (watched_alone (Call.Raise c.in-Raise.id) d c.in-Raise.id ok refl) (omega (arith, raise_length d c.in-Raise.id ok.is_sound ok.id, c.requires.1)))

pub put_all-requires-in-Clear : goal.put_all-requires-in-Clear
unfolding clear_commands
put_all-requires-in-Clear c =
    let d = c.args.self.now in
    let sound = (accepted_as d c.in-Clear.is c.requires.0).is_sound in
    let parts = sound_parts d sound in
    let down : SFits w32 d.down = search rules in
    let up : SFits w32 d.up = search rules in
    rw (to_z-of_z w32 d.down down, to_z-of_z w32 d.up up) (sound, parts.down, parts.up, omega (arith, clear_length d sound, c.requires.1))

pub returns-in-Down : goal.returns-in-Down
unfolding commands_of command_frame
returns-in-Down c =
    let ok = accepted_as c.args.self.now c.in-Down.is c.requires.0 in
    let fits : SFits w32 c.in-Down.limit = search rules in
    rw c.in-Down.is (put_one_frame (Command.set_down c.in-Down.limit) c.requires.1 (commands_length (Call.Down c.in-Down.limit) c.args.self.now ok) (rw (to_z-of_z w32 c.in-Down.limit fits) at c.put_limit.ensures))

pub returns-in-Up : goal.returns-in-Up
unfolding commands_of command_frame
returns-in-Up c =
    let ok = accepted_as c.args.self.now c.in-Up.is c.requires.0 in
    let fits : SFits w32 c.in-Up.limit = search rules in
    rw c.in-Up.is (put_one_frame (Command.set_up c.in-Up.limit) c.requires.1 (commands_length (Call.Up c.in-Up.limit) c.args.self.now ok) (rw (to_z-of_z w32 c.in-Up.limit fits) at c.put_limit-in-Up.ensures))

pub returns-in-Start : goal.returns-in-Start
unfolding commands_of command_frame listed_frame
returns-in-Start c =
    let x = c.in-Start.id in
    let ok = accepted_as c.args.self.now c.in-Start.is c.requires.0 in
    rw c.in-Start.is (put_one_frame (Command.start (x ∷ [])) c.requires.1 (commands_length (Call.Start x) c.args.self.now ok) (rw (watched_alone (Call.Start x) c.args.self.now x ok refl) at c.put_listed.ensures))

pub returns-in-Stop : goal.returns-in-Stop
unfolding commands_of command_frame listed_frame
returns-in-Stop c =
    let x = c.in-Stop.id in
    let ok = accepted_as c.args.self.now c.in-Stop.is c.requires.0 in
    rw c.in-Stop.is (put_one_frame (Command.stop (x ∷ [])) c.requires.1 (commands_length (Call.Stop x) c.args.self.now ok) (rw (watched_alone (Call.Stop x) c.args.self.now x ok refl) at c.put_listed-in-Stop.ensures))

pub returns-in-Raise : goal.returns-in-Raise
unfolding commands_of raise_commands
returns-in-Raise c =
    let ok = accepted_as c.args.self.now c.in-Raise.is c.requires.0 in
    rw c.in-Raise.is (rw (watched_alone (Call.Raise c.in-Raise.id) c.args.self.now c.in-Raise.id ok refl) at c.put_all.ensures)

pub returns-in-Clear : goal.returns-in-Clear
unfolding commands_of clear_commands
returns-in-Clear c =
    let d = c.args.self.now in
    let down : SFits w32 d.down = search rules in
    let up : SFits w32 d.up = search rules in
    rw c.in-Clear.is (rw (to_z-of_z w32 d.down down, to_z-of_z w32 d.up up) at c.put_all-in-Clear.ensures)
