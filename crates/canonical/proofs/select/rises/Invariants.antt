use mathlib.Core.Path.{◌≡◌}
use Rattle.canonical.specs.SortWalk.{nothing, bound_of, Inside, entry_from, rises_at}
use Rattle.canonical.proofs.select.rises.Given as goal

abbrev pub invariant-loop-entry : goal.invariant-loop-entry
invariant-loop-entry l = record {
  decides : rises_at l.s (entry_from l.s l.entry-iterator.place) (bound_of l.s l.last) ≡ rises_at l.s l.from nothing;
  stands : Inside l.s l.last;
  walks : l.entry-iterator.s.now ≡ l.s;
}
