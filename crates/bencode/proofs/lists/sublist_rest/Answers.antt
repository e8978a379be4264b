-- `bencode::lists::sublist_rest` meets its contract.
-- Assumes nothing.
use Prim.Native.Nat.{ℕ, ◌-◌}
use mathlib.Core.Path.{ap, ◌∙◌}
use Rattle.bencode.specs.Depth.{largest_depth}
use Rattle.bencode.specs.Walk.{list_at}
use Rattle.bencode.proofs.lists.sublist_rest.Goals as goal

pub returns : goal.returns
returns c = c.list.ensures ∙ ap (λ (d : ℕ). list_at c.args.profile (largest_depth - d) c.args.s.now c.args.at) c.in_sublist.ensures
