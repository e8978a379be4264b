-- `canonical::sorter::sort` meets its contract.
-- Assumes nothing.
use native.Mathlib.Omega.{arith}
use Rattle.canonical.proofs.AnswerLaws.{sorted_leaves}
use Rattle.canonical.proofs.sorter.sort.Goals as goal

pub returns : goal.returns
returns c =
    sorted_leaves c.args.out.now c.args.s.now (omega arith) c.in_default.field-0 c.in_default.ensures.answer (omega arith) c.put_value.new.out c.put_value.result c.put_value.ensures
