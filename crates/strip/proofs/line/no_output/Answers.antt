-- `strip::line::no_output` meets its contract.
-- Assumes nothing.
use mathlib.Core.Path.{refl}
use Rattle.strip.specs.Line.{output_of}
use Rattle.strip.proofs.line.no_output.Goals as goal

pub returns : goal.returns
unfolding output_of
returns c = refl
