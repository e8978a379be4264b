-- The walk by one loop finds what the nested walk finds: each turn lands, and the bytes left are turns enough.
-- Assumes nothing.
use Prim.Native.Nat.{ℕ, zero, suc, ◌-◌, ◌<◌}
use mathlib.Core.Path.{◌≡◌, refl, ap}
use mathlib.Core.List.{List}
use native.Mathlib.Omega.{arith}
use lib.ListN.{length}
use Rattle.bencode.specs.declared.profile.Profile.{Profile}
use Rattle.bencode.specs.Demands.{SamePayload}
use Rattle.bencode.specs.Flat.{Levels, at_start, turn, loop_at}
use Rattle.bencode.specs.Loop.{LoopStep, next, done, after_step, repeat}
use Rattle.bencode.specs.Walk.{whole, payload_at}
use Rattle.bencode.proofs.walking.OpenLevels.{FirstValue, Stand, starts}
use Rattle.bencode.proofs.walking.FlatLaws.{Lands, lands}
use Rattle.bencode.specs.Fault.{Walk}

module _ (p : Profile) (s : List ℕ) (a : Walk) where
  loop_lands : (n at : ℕ) (x : Levels) → length s - at < n → Stand p s x.row x.depth x.level x.valued at → repeat (turn p s) a n at x ≡ FirstValue p s
  unfolding repeat turn
  loop_lands zero at x h st = absurd (omega arith)
  loop_lands (suc n) at x h st = go (turn p s at x) (lands p s x.row x.depth x.level x.valued at st) (λ to y l st. loop_lands n to y l st)
    where
      go : (t : LoopStep Levels Walk) → Lands p s at t → ((to : ℕ) (y : Levels) → length s - to < n → Stand p s y.row y.depth y.level y.valued to → repeat (turn p s) a n to y ≡ FirstValue p s)
          → after_step t (λ to y. repeat (turn p s) a n to y) ≡ FirstValue p s
      go (done w) e rec = e
      go (next to y) l rec = rec to y (omega (arith, h, l.0)) l.1

pub same_payload : SamePayload
unfolding loop_at payload_at
same_payload endless p s = ap (whole s) (loop_lands p s _ _ 0 at_start (omega arith) (starts p s at_start.row at_start.level refl refl))
