-- `octets::numerals::long_digits` meets its contract: a number capped early is capped late.
-- Assumes nothing.
use Prim.Native.Nat.{◌<◌, ◌≤◌, ◌-◌, ◌+◌, ◌*◌}
use mathlib.Core.Path.{refl, sym, ap, ◌∙◌}
use native.Mathlib.Omega.{arith}
use borrow.Author.Rules.{rules}
use lib.ListN.{drop}
use Rattle.octets.specs.Bytes.{byte_at}
use Rattle.octets.specs.Numerals.{capped}
use Rattle.octets.proofs.digits.NumeralLaws.{inside, digits_below, digits_above, digits_more, capped_early, capped_fits}
use Rattle.octets.proofs.numerals.long_digits.Goals as goal

pub loop-at-init : goal.loop-at-init
loop-at-init c = (search rules, refl)

pub returns-then-b-lt48 : goal.returns-then-b-lt48
returns-then-b-lt48 c =
    let i = c.loop-at.i in
    let n = c.loop-at.n in
    let s = c.args.s.now in
    let low : byte_at s i < 48 = omega (arith, c.byte_at-b.ensures) in
    capped_fits n i c.loop-at.invariant.0 ∙ sym (ap capped (digits_below n i s low)) ∙ c.loop-at.invariant.1

pub returns-then-b-gt57 : goal.returns-then-b-gt57
returns-then-b-gt57 c =
    let i = c.loop-at.i in
    let n = c.loop-at.n in
    let s = c.args.s.now in
    let high : 57 < byte_at s i = omega (arith, c.byte_at-b.ensures) in
    capped_fits n i c.loop-at.invariant.0 ∙ sym (ap capped (digits_above n i s high)) ∙ c.loop-at.invariant.1

pub overflow_add-i : goal.overflow_add-i
overflow_add-i c =
    let i = c.loop-at.i in
    let s = c.args.s.now in
    omega (arith, inside s i (omega (arith, c.byte_at-b.ensures)))

pub loop-at-smaller : goal.loop-at-smaller
loop-at-smaller c =
    let i = c.loop-at.i in
    let s = c.args.s.now in
    omega (arith, inside s i (omega (arith, c.byte_at-b.ensures)))

pub loop-at-preserved : goal.loop-at-preserved
loop-at-preserved c =
    let i = c.loop-at.i in
    let n = c.loop-at.n in
    let s = c.args.s.now in
    let b = c.byte_at-b in
    let low : 48 ≤ byte_at s i = omega (arith, b.ensures) in
    let high : byte_at s i ≤ 57 = omega (arith, b.ensures) in (
      omega (arith, c.extended-n.ensures),
      capped_early c.extended-n.result (n * 10 + (byte_at s i - 48)) (i + 1) (drop (i + 1) s) (omega (arith, c.extended-n.ensures, b.ensures))
          ∙ ap capped (sym (digits_more n i s low high))
          ∙ c.loop-at.invariant.1,
    )
