-- What the daemon becomes, and the record as far as a later call shows it, is pinned by `Demand3`, the list and the override by
-- `ListFixed` and `OverrideMoves`; codes, which frames and their order are to be believed. What an accepted call does: its code,
-- the record after it and the commands it sends (document 01, 'The desk': routine, raise and clear).
-- Assumes nothing.
use Rattle.std.specs.Prelude.{ℕ, Bool, true, false, cond, List, [], ◌∷◌, ◌++◌}
use Rattle.desk.specs.declared.call.Call.{Call}
use Rattle.desk.specs.declared.lists.Pick.{Pick}
use Rattle.desk.specs.declared.record.Desk.{Desk}
use Rattle.desk.specs.Limit.{unlimited}
use Rattle.desk.specs.Watch.{pick_ids}
use Rattle.desk.specs.Record.{watched, with_down, with_up, with_override, with_running}
use Rattle.desk.specs.Command.{Command, listing}
use Rattle.desk.specs.Refusal.{stands}

-- a call's code, the record after it, and what it sends: commands, or the bytes of their frames
pub record Outcome (Sent : Type 0) : Type 0 where
  pub code : ℕ
  pub desk : Desk
  pub sent : Sent

-- a routine request while an override stands: it is deferred (document 01 calls it held)
abbrev pub deferred : Call → Desk → Bool
deferred (Call.Down n) d = stands d
deferred (Call.Up n) d = stands d
deferred (Call.Start x) d = stands d
deferred (Call.Stop x) d = stands d
deferred (Call.Raise x) d = false
deferred Call.Clear d = false

-- what is desired after a call, and the override that stands
unfoldable pub desk_after : Call → Desk → Desk
desk_after (Call.Down n) d = with_down n d
desk_after (Call.Up n) d = with_up n d
desk_after (Call.Start x) d = with_running x true d
desk_after (Call.Stop x) d = with_running x false d
desk_after (Call.Raise x) d = with_override x d
desk_after Call.Clear d = with_override 0 d

-- raise: both limits off; stop, all watched IDs but x; start x
unfoldable pub raise_commands : ℕ → Desk → List Command
raise_commands x d =
    Command.set_down unlimited ∷ (Command.set_up unlimited
    ∷ (listing Command.stop (pick_ids (Pick.But x) (watched d)) ++ listing Command.start (x ∷ [])))

-- clear: both limits as desired; stop, IDs desired stopped; start, IDs desired running
unfoldable pub clear_commands : Desk → List Command
clear_commands d =
    Command.set_down d.down ∷ (Command.set_up d.up
    ∷ (listing Command.stop (pick_ids Pick.Stopped (watched d)) ++ listing Command.start (pick_ids Pick.Running (watched d))))

-- the commands of a call
unfoldable pub commands_of : Call → Desk → List Command
commands_of (Call.Down n) d = Command.set_down n ∷ []
commands_of (Call.Up n) d = Command.set_up n ∷ []
commands_of (Call.Start x) d = Command.start (x ∷ []) ∷ []
commands_of (Call.Stop x) d = Command.stop (x ∷ []) ∷ []
commands_of (Call.Raise x) d = raise_commands x d
commands_of Call.Clear d = clear_commands d

-- an accepted call: 1 and no command where it is deferred, else 0 and its commands
unfoldable pub plan : Call → Desk → Outcome (List Command)
plan c d =
    cond (deferred c d)
    (record { code = 1; desk = desk_after c d; sent = [] })
    (record { code = 0; desk = desk_after c d; sent = commands_of c d })
