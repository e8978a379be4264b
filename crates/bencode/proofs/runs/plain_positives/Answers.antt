-- `bencode::runs::plain_positives` meets its contract: what `plain_positive` finds is an integer.
-- Assumes nothing.
use native.Mathlib.Omega.{arith}
use borrow.Author.Rules.{rules}
use Rattle.bencode.specs.Runs.{PositiveAt}
use Rattle.bencode.proofs.lookup.RunLaws.{run_map, positive_past}
use Rattle.bencode.proofs.runs.plain_positives.Goals as goal

pub run-requires-clause-onward : goal.run-requires-clause-onward
run-requires-clause-onward c at end p = let h : PositiveAt c.args.high c.args.s.now at end = search rules in omega (arith, positive_past c.args.high c.args.s.now at end h)

pub returns : goal.returns
returns c = run_map _ _ (λ at end p. search rules) c.args.from c.run.result c.run.ensures
