-- A refused message or handshake leaves the lent buffer as it was.
-- Assumes nothing.
use mathlib.Core.Path.{refl}
use Rattle.ipc.specs.Demands.{RefusalKeeps}
use Rattle.std.specs.Prelude.{Ok, Err}

pub refusal_keeps : RefusalKeeps
refusal_keeps E number answer (Ok n) payload before after o h = absurd (h refl)
refusal_keeps E number answer (Err c) payload before after o h = (refl, o.buffer)
