-- `desk::limit::is_limit` meets its contract.
-- Assumes nothing.
use Rattle.std.proofs.lemmas.Grind.{common_steps}
use native.Mathlib.Omega.{arith}
use mir.ValLaws.{to_z-of_z}
use Rattle.desk.specs.Limit.{limit_of}
use Rattle.desk.proofs.limit.is_limit.Goals as goal

pub returns : goal.returns
unfolding limit_of
returns c =
    let fits = c.ranges.n in
    grind (arith, common_steps, to_z-of_z)
