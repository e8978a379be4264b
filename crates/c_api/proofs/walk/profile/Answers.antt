-- `c_api::walk::profile` meets its contract.
-- Assumes nothing.
use mathlib.Core.Path.{ap, sym}
use Rattle.c_api.specs.Walk.{profile_of}
use Rattle.c_api.proofs.walk.profile.Goals as goal

pub returns-then-strict : goal.returns-then-strict
returns-then-strict c = sym (ap profile_of c.if-strict.true)

pub returns-else-strict : goal.returns-else-strict
returns-else-strict c = sym (ap profile_of c.if-strict.false)
