use Prim.Native.Nat.{◌+◌}
use native.Mathlib.Nat.{lt_of_mul-lt-mul_right}
use native.Mathlib.Omega.{arith}
use Rattle.octets.proofs.decimal.take_digit.Goals as goal

pub loop-rest-preserved : goal.loop-rest-preserved
loop-rest-preserved c =
    let d = c.loop-rest.d in
    let p = c.args.p in
    omega (arith, lt_of_mul-lt-mul_right p {m = d + 1} {n = 10} (omega arith))
