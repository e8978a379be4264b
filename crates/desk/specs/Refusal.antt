-- To be believed. When a call is refused (document 01, 'The desk': the order in a call is 38, 32 or 33, 30, 31, 34; 34 looks at
-- the frames and stands in `Calls`).
-- Assumes nothing.
use Rattle.std.specs.Prelude.{ℕ, Bool, true, false, cond, not, eqb}
use Rattle.desk.specs.declared.call.Call.{Call}
use Rattle.desk.specs.declared.record.Desk.{Desk}
use Rattle.desk.specs.Limit.{is_limit}
use Rattle.desk.specs.Watch.{has}
use Rattle.desk.specs.Record.{watched, sound}

-- an override stands while its ID is not 0
abbrev pub stands : Desk → Bool
stands d = not (eqb d.override_id 0)

-- a raise while an override stands
abbrev pub raises_again : Call → Desk → Bool
raises_again (Call.Down n) d = false
raises_again (Call.Up n) d = false
raises_again (Call.Start x) d = false
raises_again (Call.Stop x) d = false
raises_again (Call.Raise x) d = stands d
raises_again Call.Clear d = false

-- a clear with none standing
abbrev pub clears_none : Call → Desk → Bool
clears_none (Call.Down n) d = false
clears_none (Call.Up n) d = false
clears_none (Call.Start x) d = false
clears_none (Call.Stop x) d = false
clears_none (Call.Raise x) d = false
clears_none Call.Clear d = not (stands d)

-- the limit that a call names, if any, is in its range
abbrev pub limit_fits : Call → Bool
limit_fits (Call.Down n) = is_limit n
limit_fits (Call.Up n) = is_limit n
limit_fits (Call.Start x) = true
limit_fits (Call.Stop x) = true
limit_fits (Call.Raise x) = true
limit_fits Call.Clear = true

-- the ID that a call names, if any, is watched
abbrev pub id_fits : Call → Desk → Bool
id_fits (Call.Down n) d = true
id_fits (Call.Up n) d = true
id_fits (Call.Start x) d = has x (watched d)
id_fits (Call.Stop x) d = has x (watched d)
id_fits (Call.Raise x) d = has x (watched d)
id_fits Call.Clear d = true

-- the code by which a call is refused whatever room it is lent; 0 for none
unfoldable pub call_fault : Call → Desk → ℕ
call_fault c d =
    cond (not (sound d)) 38
    (cond (raises_again c d) 32
    (cond (clears_none c d) 33
    (cond (not (limit_fits c)) 30
    (cond (not (id_fits c d)) 31
    0))))
