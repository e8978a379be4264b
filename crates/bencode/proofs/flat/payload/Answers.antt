-- `bencode::flat::payload` meets its contract: it is `whole` of what its value comes to.
-- Assumes nothing.
use mathlib.Core.Path.{ap, ◌∙◌}
use Rattle.bencode.specs.Walk.{whole, payload_at}
use Rattle.bencode.proofs.walking.WalkLaws.{numbered}
use Rattle.bencode.proofs.flat.payload.Goals as goal

pub returns : goal.returns
unfolding payload_at
returns c =
    let a = c.args in
    let both = numbered a.profile a.s.now (c.whole.ensures ∙ ap (whole a.s.now) c.first_value.ensures) in
    record { answer = both.0; numbers = both.1 }
