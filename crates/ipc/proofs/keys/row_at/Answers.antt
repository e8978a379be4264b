-- `ipc::keys::row_at` meets its contract: the source's table is the document's list.
-- Assumes nothing.
use borrow.Author.Rules.{rules}
use Rattle.octets.specs.Ascii.{ascii}
use Rattle.ipc.specs.Keys.{listed}
use Rattle.ipc.proofs.listed.KeyLaws.{row_right}
use Rattle.ipc.proofs.keys.row_at.Goals as goal

pub returns : goal.returns
unfolding listed ascii
returns c = row_right _ c.args.k (search rules)
