-- `c_api::walk::bogsilver_walk_flat` meets its contract.
-- Assumes nothing.
use mathlib.Core.Path.{ap, ◌∙◌}
use Rattle.bencode.specs.declared.profile.Profile.{Profile}
use Rattle.bencode.specs.Walk.{payload_at}
use Rattle.c_api.specs.Walk.{walk_numbers}
use Rattle.c_api.proofs.walk.bogsilver_walk_flat.Goals as goal

pub returns : goal.returns
returns c = c.walk_answer_of.ensures ∙ ap walk_numbers (c.payload.ensures.answer ∙ ap (λ (p : Profile). payload_at p c.args.s.now) c.profile.ensures)
