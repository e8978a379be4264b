-- `desk::lists::are_unused` meets its contract.
-- Assumes nothing.
use mathlib.Core.Path.{◌∙◌}
use mathlib.Core.Bool.{not, ◌&&◌}
use lib.Dec.{eqb}
use Rattle.std.proofs.Common.{rules, tests}
use Rattle.std.proofs.lemmas.Iterator.{YieldsList-from_slice}
use Rattle.std.proofs.lemmas.Iterator.Search.{all_from_yields_List}
use Rattle.desk.proofs.watching.Scans.{all_unused}
use Rattle.desk.proofs.lists.are_unused.Goals as goal

pub returns : goal.returns
returns c =
    all_from_yields_List (λ w. eqb w.id 0 && not w.running) _ _ c.all.result c.all.ensures.ran (YieldsList-from_slice c.args.places.now cc) (λ x b q k. search (rules, tests))
    ∙ all_unused c.args.places.now
