-- `ipc::keys::put_key` meets its contract.
-- Assumes nothing.
use native.Mathlib.Omega.{arith}
use lib.ListN.{length-take}
use Rattle.ipc.specs.Keys.{listed_at}
use Rattle.ipc.proofs.listed.KeyLaws.{row_fits, row_key, put_text}
use Rattle.ipc.proofs.keys.put_key.Goals as goal

pub slice_bounds-text-end : goal.slice_bounds-text-end
slice_bounds-text-end c = row_fits (listed_at c.args.number) c.row_of-row.result c.row_of-row.ensures

pub slice_bounds-put_string-end : goal.slice_bounds-put_string-end
slice_bounds-put_string-end c =
    let r = c.row_of-row in
    omega (arith, length-take r.result.length r.result.text, row_fits (listed_at c.args.number) r.result r.ensures)

pub returns : goal.returns
returns c =
    let r = c.row_of-row in
    put_text (row_key c.args.number r.result r.ensures) c.put_string.ensures
