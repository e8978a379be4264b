-- `bencode::lists::list_value` meets its contract.
-- Assumes nothing.
use Prim.Native.Nat.{ℕ, ◌-◌}
use mathlib.Core.Path.{ap, ◌∙◌}
use Rattle.bencode.specs.Depth.{largest_depth}
use Rattle.bencode.specs.Walk.{value_at}
use Rattle.bencode.proofs.lists.list_value.Goals as goal

pub returns : goal.returns
returns c = c.value.ensures ∙ ap (λ (d : ℕ). value_at c.args.profile (largest_depth - d) c.args.s.now c.args.at) c.in_list.ensures
