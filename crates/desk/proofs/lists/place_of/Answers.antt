-- `desk::lists::place_of` meets its contract.
-- Assumes nothing.
use mathlib.Core.Path.{ap, ◌∙◌}
use lib.Dec.{eqb}
use Rattle.std.proofs.Common.{rules, tests, length}
use Rattle.std.specs.Prelude.{unwrap_or}
use Rattle.std.proofs.lemmas.Iterator.{YieldsList-from_slice}
use Rattle.std.proofs.lemmas.Iterator.Search.{position_from_yields_List}
use Rattle.desk.proofs.watching.Scans.{first_place}
use Rattle.desk.proofs.lists.place_of.Goals as goal

pub returns : goal.returns
returns c =
    let found = position_from_yields_List (λ w. eqb w.id c.args.id) _ _ c.position.result c.position.ensures.ran (YieldsList-from_slice c.args.list.now cc) (λ x b q k. search (rules, tests)) in
    c.unwrap_or.ensures ∙ ap (λ o. unwrap_or o (length c.args.list.now)) found ∙ first_place c.args.id c.args.list.now
