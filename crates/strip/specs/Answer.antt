-- To be believed. What a call on the desk comes to in a run, which lends it room for the longest (document 01, 'The strip and
-- its program').
-- Assumes nothing.
use Rattle.std.specs.Prelude.{ℕ, List}
use Rattle.desk.specs.declared.call.Call.{Call}
use Rattle.desk.specs.declared.record.Desk.{Desk}
use Rattle.desk.specs.Command.{longest_frames}
use Rattle.desk.specs.Plan.{Outcome}
use Rattle.desk.specs.Calls.{outcome}

-- the answer, the record after it and the bytes it wrote
unfoldable pub answer : Call → Desk → Outcome (List ℕ)
answer c d = outcome c longest_frames d
