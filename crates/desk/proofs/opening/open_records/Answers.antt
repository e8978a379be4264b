-- `desk::opening::open_records` meets its contract.
-- Assumes nothing.
use Prim.Native.Nat.{◌<◌}
use native.Mathlib.Omega.{arith}
use mathlib.Core.Path.{sym, ◌∙◌}
use Rattle.desk.specs.Opening.{opening_of}
use Rattle.desk.proofs.openings.OpeningLaws.{opening_over}
use Rattle.desk.proofs.opening.open_records.Goals as goal

pub returns-in-None : goal.returns-in-None
unfolding opening_of
returns-in-None c =
    let over : 32 < c.args.count = grind arith in
    c.opened.ensures ∙ sym (opening_over _ _ _ _ over)
