-- `bencode::runs::texts` meets its contract: the short strings by `short_texts`, and then one by `after_string`.
-- Assumes nothing.
use Prim.Native.Nat.{ℕ}
use mathlib.Core.Path.{◌≡◌, sym}
use mathlib.Core.Logic.{⊎_elim}
use native.Mathlib.Omega.{arith}
use borrow.Author.Rules.{rules}
use Rattle.std.specs.Prelude.{Some, None}
use Rattle.bencode.specs.Fault.{after_of}
use Rattle.bencode.specs.Runs.{Run, none, more, TextAt}
use Rattle.bencode.specs.Strings.{string_at, text_end}
use Rattle.bencode.proofs.lookup.RunLaws.{run_join, run_up, text_after, text_past}
use Rattle.bencode.proofs.runs.texts.Goals as goal

pub all_items-requires-clause-passes : goal.all_items-requires-clause-passes
all_items-requires-clause-passes c at end p =
    let s = c.args.s.now in
    let h : Run (TextAt s) at end = search rules in
    run_up (TextAt s) (λ i j q. omega (arith, text_past s i j q)) at end h

pub all_items-requires-clause-onward : goal.all_items-requires-clause-onward
all_items-requires-clause-onward c at end p =
    let s = c.args.s.now in
    let e : Some end ≡ after_of (text_end (string_at s at)) = search rules in
    omega (arith, text_past s at end (text_after s at end (sym e)))

pub returns : goal.returns
returns c =
    let s = c.args.s.now in
    let to = c.all_items.result in
    let last = c.all_items.ensures.last in
    let e : None ≡ after_of (text_end (string_at s to)) = search rules in (
      run_join _ (TextAt s)
          (λ (i j : ℕ) part.
          ⊎_elim {C = Run (TextAt s) i j} (λ p. search rules)
          (λ p. let e : Some j ≡ after_of (text_end (string_at s i)) = search rules in more i j none (text_after s i j (sym e))) part)
          c.args.from to c.all_items.ensures.items,
      sym e,
    )
