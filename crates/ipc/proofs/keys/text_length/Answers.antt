-- `ipc::keys::text_length` meets its contract.
-- Assumes nothing.
use native.Mathlib.Omega.{arith}
use Rattle.ipc.proofs.listed.KeyLaws.{row_length, key_short}
use Rattle.ipc.proofs.keys.text_length.Goals as goal

pub returns : goal.returns
returns c =
    let n = c.args.number in
    let e = row_length n c.row_of-row.result c.row_of-row.ensures in
    (e, omega (arith, e, key_short n))
