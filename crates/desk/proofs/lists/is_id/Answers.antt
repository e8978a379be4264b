-- `desk::lists::is_id` meets its contract.
-- Assumes nothing.
use mathlib.Core.Path.{◌≡◌, ◌∙◌}
use Prim.Native.Nat.{ℕ, ◌<◌, ◌^◌}
use native.Mathlib.Omega.{arith}
use lib.IntN.{ℤ, pos}
use mir.Syntax.{w64}
use mir.Val.{to_z, of_z}
use Rattle.bencode.proofs.scalars.Ranges.{natural_machine}
use Rattle.desk.proofs.numbers.IdLaws.{id_tested}
use Rattle.desk.proofs.lists.is_id.Goals as goal

-- an ID as the machine has it
same : (id : ℕ) (z : ℤ) → id < 2 ^ 32 → z ≡ pos id → to_z w64 (of_z w64 z) ≡ pos id
same id z small e = rw e (natural_machine id (omega arith))

pub returns : goal.returns
returns c = c.is_some.ensures ∙ id_tested c.args.id _ (same c.args.id c.from.result c.ranges.id.fits c.from.ensures) c.new.result c.new.ensures
