-- `ipc::versions::agreed_version` meets its contract.
-- Assumes nothing.
use Prim.Native.Nat.{ℕ}
use mathlib.Core.Path.{ap, ◌∙◌}
use Rattle.std.specs.Prelude.{Option}
use Rattle.std.specs.Option.{unwrap_or}
use Rattle.ipc.specs.Versions.{agreed_version}
use Rattle.ipc.proofs.versions.agreed_version.Goals as goal

pub returns : goal.returns
unfolding agreed_version
returns c = c.unwrap_or.ensures ∙ ap (λ (o : Option ℕ). unwrap_or o 0) c.agreed.ensures
