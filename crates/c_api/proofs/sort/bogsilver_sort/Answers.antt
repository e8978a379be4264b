-- `c_api::sort::bogsilver_sort` meets its contract.
-- Assumes nothing.
use mathlib.Core.Path.{ap, ◌∙◌}
use Rattle.c_api.specs.Sort.{sort_numbers}
use Rattle.c_api.proofs.sort.bogsilver_sort.Goals as goal

pub returns : goal.returns
returns c = record { answered = c.from.ensures ∙ ap sort_numbers c.sort.ensures.answered; buffer = c.sort.ensures.buffer }
