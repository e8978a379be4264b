-- `bencode::walk::payload` meets its contract: it is `whole` of what its value comes to.
-- Assumes nothing.
use Prim.Native.Nat.{ℕ, ◌-◌}
use mathlib.Core.Path.{ap, ◌∙◌}
use Rattle.bencode.specs.Depth.{largest_depth}
use Rattle.bencode.specs.Walk.{value_at, whole, payload_at}
use Rattle.bencode.proofs.walking.WalkLaws.{numbered}
use Rattle.bencode.proofs.walk.payload.Goals as goal

pub returns : goal.returns
unfolding payload_at
returns c =
    let s = c.args.s.now in
    let p = c.args.profile in
    let both = numbered p s (c.whole.ensures ∙ ap (whole s) (c.value.ensures ∙ ap (λ (d : ℕ). value_at p (largest_depth - d) s 0) c.outermost.ensures)) in
    record { answer = both.0; numbers = both.1 }
