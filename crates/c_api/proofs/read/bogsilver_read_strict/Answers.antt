-- `c_api::read::bogsilver_read_strict` meets its contract.
-- Assumes nothing.
use mathlib.Core.Path.{ap, ◌∙◌}
use Rattle.ipc.specs.Answer.{Answer}
use Rattle.ipc.specs.Numbers.{numbers_of}
use Rattle.c_api.proofs.read.bogsilver_read_strict.Goals as goal

pub returns : goal.returns
returns c = c.numbers_of.ensures ∙ ap (λ (x : Answer). numbers_of x) c.read_strict.ensures.numbers
