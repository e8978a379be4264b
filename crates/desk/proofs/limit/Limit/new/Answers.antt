-- `desk::limit::Limit::new` meets its contract.
-- Assumes nothing.
use Rattle.std.proofs.lemmas.Grind.{common_steps}
use Rattle.std.proofs.lemmas.Int.{ints}
use native.Mathlib.Omega.{arith}
use mir.ValLaws.{to_z-of_z}
use Rattle.desk.specs.Limit.{is_limit, limit_of}
use Rattle.desk.proofs.limit.Limit.new.Goals as goal
use Rattle.desk.proofs.limit.Limit.new.Goals.{then-n-lt-UNLIMITED-via-then-n-lt-UNLIMITED, then-n-lt-UNLIMITED-via-else-n-lt-UNLIMITED+then-n-gt-LARGEST}

pub returns-then-n-lt-UNLIMITED : goal.returns-then-n-lt-UNLIMITED
unfolding limit_of is_limit
returns-then-n-lt-UNLIMITED c =
    let fits = c.ranges.n in
    elim c.then-n-lt-UNLIMITED.branch [
      | then-n-lt-UNLIMITED-via-then-n-lt-UNLIMITED w ↦ grind (arith, ints, common_steps, to_z-of_z)
      | then-n-lt-UNLIMITED-via-else-n-lt-UNLIMITED+then-n-gt-LARGEST w ↦ grind (arith, ints, common_steps, to_z-of_z)
    ]

pub returns : goal.returns
unfolding limit_of is_limit
returns c =
    let fits = c.ranges.n in
    grind (arith, ints, common_steps, to_z-of_z)
