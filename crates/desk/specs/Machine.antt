-- To be believed; `IdsRead` and `DaemonTried` show how bytes are read. The two machines of demand 3 (document 01, 'The desk'):
-- each is two limits and a set of running IDs.
-- Assumes nothing.
use Rattle.std.specs.Prelude.{ℕ, zero, suc, ◌+◌, Bool, false, cond, not, ◌&&◌, ◌||◌, List, [], ◌∷◌, leb, eqb, ℤ, nat_abs, length, drop, Result, Ok, Err}
use Rattle.std.proofs.Math.Option.{Option, some, none}
use Rattle.bencode.specs.declared.fault.Fault.{Fault}
use Rattle.bencode.specs.declared.integers.Number.{Number}
use Rattle.octets.specs.Bytes.{slice}
use Rattle.bencode.specs.Integers.{integer_at}
use Rattle.ipc.specs.Answer.{Answer, Content, nothing, integer, text, part, versions}
use Rattle.ipc.specs.Reader.{read_frame}
use Rattle.desk.specs.Command.{Command, downlimit_key, start_key, stop_key, uplimit_key}
use Rattle.desk.specs.declared.call.Call.{Call}

pub record Machine : Type 0 where
  pub down : ℤ
  pub up : ℤ
  pub runs : ℕ → Bool

-- is a number in a list
unfoldable pub is_among : ℕ → List ℕ → Bool
is_among x [] = false
is_among x (y ∷ ys) = eqb y x || is_among x ys

-- downlimit or uplimit sets that limit; start adds the listed IDs to the set, stop takes them out
unfoldable pub obey : Command → Machine → Machine
obey (Command.set_down n) m = record { down = n; up = m.up; runs = m.runs }
obey (Command.set_up n) m = record { down = m.down; up = n; runs = m.runs }
obey (Command.start ids) m = record { down = m.down; up = m.up; runs = λ x. is_among x ids || m.runs x }
obey (Command.stop ids) m = record { down = m.down; up = m.up; runs = λ x. not (is_among x ids) && m.runs x }

-- ---- the daemon: it takes bytes frame by frame, as the frame reader reads them
-- the IDs of a list of integers from an offset on, at most so many: up to the first byte that begins no integer, the list's `e`
unfoldable pub ids_from : ℕ → List ℕ → Result Number Fault → List ℕ
ids_from zero s n = []
ids_from (suc more) s (Ok n) = nat_abs n.value ∷ ids_from more s (integer_at s n.end)
ids_from (suc more) s (Err f) = []

-- the IDs of a list
unfoldable pub ids_in : List ℕ → List ℕ
ids_in s = ids_from (length s) s (integer_at s 1)

-- a frame of key 5 or 20 sets a limit, one of key 16 or 18 starts or stops; any other is none that the daemon may be sent
unfoldable pub limit_command : ℕ → ℤ → Option Command
limit_command key n =
    cond (eqb key downlimit_key) (some (Command.set_down n)) (cond (eqb key uplimit_key) (some (Command.set_up n)) none)

unfoldable pub ids_command : ℕ → List ℕ → Option Command
ids_command key ids = cond (eqb key start_key) (some (Command.start ids)) (cond (eqb key stop_key) (some (Command.stop ids)) none)

unfoldable pub content_command : List ℕ → ℕ → Content → Option Command
content_command s key nothing = none
content_command s key (integer n) = limit_command key n
content_command s key (text at n) = none
content_command s key (part at n) = ids_command key (ids_in (slice s at (at + n)))
content_command s key (versions low high) = none

-- the command of the frame that some bytes begin with, where the reader accepts it
unfoldable pub command_in : List ℕ → Answer → Option Command
command_in s a = cond (eqb a.code 0) (content_command s a.key a.value) none

-- the machine after a command, and then after what follows
unfoldable pub obeying : Option Command → Machine → (Machine → Option Machine) → Option Machine
obeying none m next = none
obeying (some c) m next = next (obey c m)

-- the daemon after bytes of fewer than so many frames: none where they are not whole accepted frames of those keys and
-- nothing else
unfoldable pub takes : ℕ → List ℕ → Machine → Option Machine
takes zero s m = none
takes (suc frames) s m =
    let a = read_frame s in
    cond (eqb (length s) 0) (some m) (obeying (command_in s a) m (takes frames (drop a.consumed s)))

-- a daemon that was sent other bytes before takes no more; each frame has a byte at least
unfoldable pub handed : List ℕ → Option Machine → Option Machine
handed bytes none = none
handed bytes (some m) = takes (suc (length bytes)) bytes m

-- ---- routine alone: it takes the calls' arguments and answers
-- a routine request sets its limit, or adds or takes out its ID; any other call passes it by
unfoldable pub request : Call → Machine → Machine
request (Call.Down n) m = obey (Command.set_down n) m
request (Call.Up n) m = obey (Command.set_up n) m
request (Call.Start x) m = obey (Command.start (x ∷ [])) m
request (Call.Stop x) m = obey (Command.stop (x ∷ [])) m
request (Call.Raise x) m = m
request Call.Clear m = m

-- and so does one that is not answered 0 or 1
unfoldable pub alone_after : Call → ℕ → Machine → Machine
alone_after c code m = cond (leb code 1) (request c m) m
