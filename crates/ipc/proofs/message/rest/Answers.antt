-- `ipc::message::rest` meets its contract.
-- Assumes nothing.
use native.Mathlib.Omega.{arith}
use Rattle.bencode.specs.Depth.{list_levels}
use Rattle.bencode.proofs.walking.WalkLaws.{value_ends}
use Rattle.ipc.specs.OnePass.{value_end}
use Rattle.ipc.proofs.message.rest.Goals as goal

pub value_held-requires : goal.value_held-requires
value_held-requires c =
    let a = c.args in
    let v = value_ends a.p.profile list_levels a.p.bytes.now a.at (value_end a.check) c.requires.0 in
    (omega arith, omega arith, c.requires.1)
