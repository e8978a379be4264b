-- `strip::number::limit_at` meets its contract.
-- Assumes nothing.
use mathlib.Core.Path.{ap, ◌∙◌}
use Rattle.strip.specs.Number.{twos_complement}
use Rattle.strip.proofs.records.NumberLaws.{twos, machine}
use Rattle.strip.proofs.number.limit_at.Goals as goal

pub returns : goal.returns
returns c =
    rw (machine c.cast_signed.result c.cast_signed.type_inv)
    (c.cast_signed.ensures ∙ twos c.number_at.result c.number_at.type_inv ∙ ap twos_complement c.number_at.ensures)
