-- `ipc::lists::id_list` meets its contract.
-- Assumes nothing.
use mathlib.Core.Path.{sym, subst}
use Rattle.ipc.specs.declared.format.Items.{Items}
use Rattle.ipc.specs.declared.lists.ListCheck.{ListCheck}
use Rattle.ipc.specs.Lists.{Listing}
use Rattle.ipc.proofs.formats.ListingLaws.{id_listing}
use Rattle.ipc.proofs.lists.id_list.Goals as goal

pub returns : goal.returns
returns c profile =
    let a = c.args in
    let l = c.positives in
    subst (λ (r : ListCheck). Listing profile Items.Ids a.p.now a.from r) (sym c.closed_at.ensures) (id_listing profile a.p.now a.from l.result (rw c.from.ensures at l.ensures.0))
