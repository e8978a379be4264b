use Prim.Native.Nat.{◌+◌, ◌*◌, ◌-◌}
use mathlib.Core.Path.{◌≡◌}
use lib.ListN.{length}
use Rattle.canonical.specs.SortWalk.{nothing, bound_of, Inside, values_from, selected, sorted_at}
use Rattle.canonical.proofs.walks.WriteLaws.{Left}
use Rattle.canonical.proofs.write.+put_entries_put_items_put_selected_put_value.Given as goal

abbrev pub decreases-put_entries : goal.decreases-put_entries
decreases-put_entries l = 4 * l.levels + 3

abbrev pub decreases-put_items : goal.decreases-put_items
decreases-put_items l = 4 * l.levels + 1

abbrev pub decreases-put_selected : goal.decreases-put_selected
decreases-put_selected l = 4 * l.levels + 2

abbrev pub decreases-put_value : goal.decreases-put_value
decreases-put_value l = 4 * l.levels

abbrev pub invariant-put_items-loop-turn : goal.invariant-put_items-loop-turn
invariant-put_items-loop-turn l = record {
  left : Left l.initial.out l.to (values_from (sorted_at l.levels l.s) l.s l.most l.from) l.out l.o (values_from (sorted_at l.levels l.s) l.s (l.most - l._turn) l.at);
  as_far : l.at + l.to ≡ l.from + l.o;
}

abbrev pub invariant-put_selected-loop-turn : goal.invariant-put_selected-loop-turn
invariant-put_selected-loop-turn l = record {
  left : Left l.initial.out l.to (selected (sorted_at l.levels l.s) l.s l.first (length l.s) nothing) l.out l.o (selected (sorted_at l.levels l.s) l.s l.first (length l.s - l._turn) (bound_of l.s l.last));
  stands : Inside l.s l.last;
}
