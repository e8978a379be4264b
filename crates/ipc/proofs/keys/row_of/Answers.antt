-- `ipc::keys::row_of` meets its contract.
-- Assumes nothing.
use mathlib.Core.Path.{ap, ◌∙◌}
use native.Mathlib.Omega.{arith}
use Rattle.octets.specs.Ascii.{ascii}
use Rattle.ipc.specs.Keys.{row_at}
use Rattle.ipc.proofs.listed.KeyLaws.{row_none, row_past, row_here}
use Rattle.ipc.proofs.keys.row_of.Goals as goal

pub returns-in-Some : goal.returns-in-Some
returns-in-Some c = c.row_at.ensures ∙ ap row_at (rw c.from.ensures at c.in-Some.ensures.1) ∙ row_here c.args.number (λ e. omega (arith, c.in-Some.ensures.0, c.from.ensures, e))

pub returns-in_default : goal.returns-in_default
unfolding ascii
returns-in_default c = row_past c.args.number (λ e. omega (arith, c.in-Some.ensures.0, c.from.ensures, e)) (omega (arith, c.in-Some.ensures.1, c.from.ensures, c.if-k-lt-LISTED.false))

pub returns-in_default-2 : goal.returns-in_default-2
unfolding ascii
returns-in_default-2 c = row_none c.args.number (omega (arith, c.in_default.ensures, c.from.ensures))
