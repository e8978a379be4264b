use Rattle.std.proofs.Common.{◌∙◌, arith, ◌≤◌, ◌<◌, rules, tests}
use Rattle.std.proofs.lemmas.Iterator.{IsFirst-from_position, YieldsList-from_slice}
use Rattle.octets.specs.declared.decimal.TheConstants.{TENS}
use Rattle.octets.proofs.digits.TensLaws.{length_first}
use Rattle.octets.proofs.decimal.decimal_length.Goals as goal

pub returns : goal.returns
returns c =
    let n = c.args.n in
    let first = IsFirst-from_position _ _ c.position.result (λ p. n < p) (λ p. p ≤ n) c.position.ensures.ran (YieldsList-from_slice TENS cc) (λ x q k. search (rules, tests)) (λ x q k. search (rules, tests)) in
    let counted = length_first n c.position.result (omega arith) first in
    (c.max.ensures ∙ rw c.unwrap_or.ensures counted.0, rw (c.max.ensures, c.unwrap_or.ensures) counted.1)
