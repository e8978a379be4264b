-- `bencode::runs::short_texts` meets its contract: what `short_string` finds is a string.
-- Assumes nothing.
use native.Mathlib.Omega.{arith}
use borrow.Author.Rules.{rules}
use Rattle.bencode.specs.Runs.{TextAt}
use Rattle.bencode.proofs.lookup.RunLaws.{run_map, text_past}
use Rattle.bencode.proofs.runs.short_texts.Goals as goal

pub run-requires-clause-onward : goal.run-requires-clause-onward
run-requires-clause-onward c at end p = let h : TextAt c.args.s.now at end = search rules in omega (arith, text_past c.args.s.now at end h)

pub returns : goal.returns
returns c = run_map _ _ (λ at end p. search rules) c.args.from c.run.result c.run.ensures
