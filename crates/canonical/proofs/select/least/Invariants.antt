use mathlib.Core.Path.{◌≡◌}
use Rattle.std.specs.Prelude.{None}
use Rattle.canonical.specs.SortWalk.{bound_of, Inside, entry_from, least_at}
use Rattle.canonical.proofs.select.least.Given as goal

abbrev pub invariant-loop-entry : goal.invariant-loop-entry
invariant-loop-entry l = record {
  decides : least_at l.s (bound_of l.s l.last) (entry_from l.s l.entry-iterator.place) l.best ≡ least_at l.s (bound_of l.s l.last) l.from None;
  stands : Inside l.s l.best;
  walks : l.entry-iterator.s.now ≡ l.s;
}
