use mathlib.Core.Path.{◌≡◌, refl, ap, sym, ◌∙◌}
use native.Mathlib.Omega.{arith}
use lib.ListN.{length, length-set, take}
use lib.Seq.{sets, length-take-le}
use Rattle.octets.specs.declared.decimal.TheConstants.{TENS}
use Rattle.octets.specs.Numerals.{decimal}
use Rattle.octets.proofs.digits.DigitLaws.{places, decimal_filled, lt_decimal, put_digit}
use Rattle.octets.proofs.digits.TensLaws.{tens_first, tens_last}
use Rattle.octets.proofs.decimal.store_decimal.Goals as goal

pub loop-p-init : goal.loop-p-init
loop-p-init c =
    let n = c.args.n in
    let e : c.into_iter-p-iterator.result.iter.rest.now ≡ take (length (decimal n)) TENS = cc in
    let long : length (take (length (decimal n)) TENS) ≡ length (decimal n) = length-take-le (length (decimal n)) TENS (omega arith) in
    record {
      tens = rw e (tens_first (length (decimal n)) (omega arith));
      stores = rw (e, long, ← decimal_filled n);
      ends = rw (e, long);
      small = rw (e, long) (lt_decimal n);
      kept = refl;
    }

pub take_digit-d-requires : goal.take_digit-d-requires
take_digit-d-requires c =
    let l = c.loop-p in
    let w = tens_last l.p-iterator.iter.rest.now c.next.new.self.iter.rest.now c.in-Some.p.now c.in-Some.ensures.steps l.invariant.tens in
    (w.positive, omega (arith, w.tenfold, l.invariant.small))

pub bounds-out-o : goal.bounds-out-o
bounds-out-o c =
    let l = c.loop-p in
    let w = tens_last l.p-iterator.iter.rest.now c.next.new.self.iter.rest.now c.in-Some.p.now c.in-Some.ensures.steps l.invariant.tens in
    omega (arith, w.longer)

pub loop-p-preserved : goal.loop-p-preserved
loop-p-preserved c =
    let l = c.loop-p in
    let d = c.take_digit-d in
    let rest = c.next.new.self.iter.rest.now in
    let w = tens_last l.p-iterator.iter.rest.now rest c.in-Some.p.now c.in-Some.ensures.steps l.invariant.tens in
    let stored = put_digit l.out l.o (length rest) d.result.digit c.in-Some.p.now d.result.rest l.rest w.power d.ensures.0 d.ensures.1 in
    record {
      tens = w.before;
      stores = stored ∙ ap (λ k. sets l.out l.o (places k l.rest)) (sym w.longer) ∙ l.invariant.stores;
      ends = omega (arith, w.longer);
      small = omega (arith, w.power);
      kept = simp length-set l.invariant.kept;
    }

pub returns : goal.returns
unfolding places
returns c =
    let l = c.loop-p in
    let none : length l.p-iterator.iter.rest.now ≡ 0 = c.in-None.ensures.steps.0 in
    record {
      stored = ap (λ k. sets l.out l.o (places k l.rest)) (sym none) ∙ l.invariant.stores;
      ended = omega (arith, none);
    }
