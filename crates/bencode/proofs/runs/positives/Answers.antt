-- `bencode::runs::positives` meets its contract: the integers of few digits by `plain_positives`, and then one by
-- `after_positive`.
-- Assumes nothing.
use Prim.Native.Nat.{ℕ}
use mathlib.Core.Path.{◌≡◌, sym}
use mathlib.Core.Logic.{⊎_elim}
use native.Mathlib.Omega.{arith}
use borrow.Author.Rules.{rules}
use Rattle.std.specs.Prelude.{Some, None}
use Rattle.bencode.specs.Integers.{integer_at, after_positive}
use Rattle.bencode.specs.Runs.{Run, none, more, PositiveAt}
use Rattle.bencode.proofs.lookup.RunLaws.{run_join, run_up, positive_past}
use Rattle.bencode.proofs.runs.positives.Goals as goal

pub all_items-requires-clause-passes : goal.all_items-requires-clause-passes
all_items-requires-clause-passes c at end p =
    let s = c.args.s.now in
    let high = c.args.high in
    let h : Run (PositiveAt high s) at end = search rules in
    run_up (PositiveAt high s) (λ i j q. omega (arith, positive_past high s i j q)) at end h

pub all_items-requires-clause-onward : goal.all_items-requires-clause-onward
all_items-requires-clause-onward c at end p =
    let s = c.args.s.now in
    let high = c.args.high in
    let e : Some end ≡ after_positive high (integer_at s at) = search rules in
    omega (arith, positive_past high s at end (sym e))

pub returns : goal.returns
returns c =
    let s = c.args.s.now in
    let high = c.args.high in
    let to = c.all_items.result in
    let last = c.all_items.ensures.last in
    let e : None ≡ after_positive high (integer_at s to) = search rules in (
      run_join _ (PositiveAt high s)
          (λ (i j : ℕ) part.
          ⊎_elim {C = Run (PositiveAt high s) i j} (λ p. search rules)
          (λ p. let e : Some j ≡ after_positive high (integer_at s i) = search rules in more i j none (sym e)) part)
          c.args.from to c.all_items.ensures.items,
      sym e,
    )
