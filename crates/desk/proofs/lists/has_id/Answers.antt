-- `desk::lists::has_id` meets its contract.
-- Assumes nothing.
use mathlib.Core.Path.{◌∙◌}
use lib.Dec.{eqb}
use Rattle.std.proofs.Common.{rules, tests}
use Rattle.std.proofs.lemmas.Iterator.{YieldsList-from_slice}
use Rattle.std.proofs.lemmas.Iterator.Search.{any_from_yields_List}
use Rattle.desk.proofs.watching.Scans.{any_has}
use Rattle.desk.proofs.lists.has_id.Goals as goal

pub returns : goal.returns
returns c =
    any_from_yields_List (λ w. eqb w.id c.args.id) _ _ c.any.result c.any.ensures.ran (YieldsList-from_slice c.args.list.now cc) (λ x b q k. search (rules, tests))
    ∙ any_has c.args.id c.args.list.now
