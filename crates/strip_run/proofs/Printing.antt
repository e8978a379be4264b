-- A run that is printed step by step: what stands there, and what is to come.
-- Assumes nothing.
use Prim.Native.Nat.{ℕ, zero, suc, ◌+◌, ◌≤◌}
use mathlib.Core.Path.{◌≡◌, sym, ap, subst, ◌∙◌}
use mathlib.Core.Bool.{true, false, cond}
use mathlib.Core.List.{List, [], ◌++◌, append-nil, append_assoc}
use native.Mathlib.Omega.{arith}
use lib.ListN.{length}
use Rattle.std.specs.declared.option.Option.{Option}
use Rattle.std.specs.Io.KnownBytes.{Appends}
use Rattle.std.proofs.KnownBytes.{Appends-nil, Appends-trans}
use Rattle.strip.specs.declared.run.Run.{Run}
use Rattle.strip.specs.Line.{output_bytes}
use Rattle.strip.specs.Printed.{printed}
use Rattle.strip.specs.Run.{begun, stepped, printed_by}
use Rattle.strip.proofs.PrintsWhole.{prints_whole, printed_over}
use Rattle.strip.proofs.running.StepsLeft.{steps_left, some_left, step_falls}

-- the bytes that were put are the strip's first ones, and the steps that are left, at most n, print the rest
pub record PrintedSoFar (s : List ℕ) (before now : Option (List ℕ)) (r : Run) : Type 0 where
  pub text : List ℕ
  pub n : ℕ
  pub put : Appends before now text
  pub whole : text ++ printed_by n s r ≡ printed s
  pub few : steps_left s r ≤ n

-- nothing is printed yet
pub at_start : (s : List ℕ) (a : Option (List ℕ)) → PrintedSoFar s a a begun
unfolding begun
at_start s a = record { text = []; n = length s + 2; put = Appends-nil a; whole = (prints_whole s).1; few = omega arith }

-- a step that is printed
pub at_step : (s : List ℕ) (a b c : Option (List ℕ)) (r : Run) → r.over ≡ false → PrintedSoFar s a b r → Appends b c (output_bytes (stepped s r).output) → PrintedSoFar s a c (stepped s r).run
unfolding printed_by
at_step s a b c r o p put = go p.n p.whole p.few
  where
    go : (n : ℕ) → p.text ++ printed_by n s r ≡ printed s → steps_left s r ≤ n → PrintedSoFar s a c (stepped s r).run
    go zero whole few = absurd (some_left s r o few)
    go (suc n) whole few =
        let next = stepped s r in
        let more : printed_by (suc n) s r ≡ output_bytes next.output ++ printed_by n s next.run = ap (λ b. cond b [] (output_bytes next.output ++ printed_by n s next.run)) o in
        record {
          text = p.text ++ output_bytes next.output;
          n = n;
          put = Appends-trans a b c _ _ p.put put;
          whole = append_assoc p.text (output_bytes next.output) (printed_by n s next.run) ∙ ap (λ l. p.text ++ l) (sym more) ∙ whole;
          few = omega (arith, step_falls s r o);
        }

-- a run that is over has printed the whole
pub at_end : (s : List ℕ) (a b : Option (List ℕ)) (r : Run) → r.over ≡ true → PrintedSoFar s a b r → Appends a b (printed s)
at_end s a b r o p =
    let all : p.text ≡ printed s = sym (append-nil p.text) ∙ ap (λ l. p.text ++ l) (sym (printed_over p.n s r o)) ∙ p.whole in
    subst (Appends a b) all p.put
