-- `ipc::message::value_of` meets its contract.
-- Assumes nothing.
use Prim.Native.Nat.{◌+◌}
use mathlib.Core.Path.{sym, subst, ◌∙◌}
use Rattle.ipc.specs.declared.format.Items.{Items}
use Rattle.ipc.specs.Lists.{ListingOrFault}
use native.Mathlib.Omega.{arith}
use Rattle.std.proofs.lemmas.Result.{err_from_is_err_and}
use Rattle.octets.proofs.digits.NumeralLaws.{inside}
use Rattle.ipc.proofs.frames.OnePassLaws.{only_walked, held_fault, held_texts, held_ids, held_torrents}
use Rattle.ipc.proofs.message.value_of.Goals as goal

pub returns-then-byte_at-ne108 : goal.returns-then-byte_at-ne108
returns-then-byte_at-ne108 c = only_walked c.args.p.profile c.args.class c.args.p.bytes.now c.args.at c.walked.result c.walked.ensures

pub overflow_add-at : goal.overflow_add-at
overflow_add-at c = omega (arith, inside c.args.p.bytes.now c.args.at (omega (arith, c.byte_at.ensures)))

pub overflow_add-at-in-IdList : goal.overflow_add-at-in-IdList
overflow_add-at-in-IdList c = omega (arith, inside c.args.p.bytes.now c.args.at (omega (arith, c.byte_at.ensures)))

pub overflow_add-at-in-TorrentList : goal.overflow_add-at-in-TorrentList
overflow_add-at-in-TorrentList c = omega (arith, inside c.args.p.bytes.now c.args.at (omega (arith, c.byte_at.ensures)))

pub returns-in-TextList : goal.returns-in-TextList
returns-in-TextList c = held_texts c.args.p.profile c.args.class c.args.p.bytes.now c.args.at (sym c.byte_at.ensures ∙ c.if-byte_at-ne108.false) c.text_list.result c.listed.result c.listed.ensures c.in-TextList.is (c.text_list.ensures c.args.p.profile)

pub returns-in-IdList : goal.returns-in-IdList
returns-in-IdList c = held_ids c.args.p.profile c.args.class c.args.p.bytes.now c.args.at (sym c.byte_at.ensures ∙ c.if-byte_at-ne108.false) c.id_list.result c.listed-in-IdList.result c.listed-in-IdList.ensures c.in-IdList.is (c.id_list.ensures c.args.p.profile)

pub returns-in_ok-torrent_list-in-TorrentList : goal.returns-in_ok-torrent_list-in-TorrentList
returns-in_ok-torrent_list-in-TorrentList c =
    let a = c.args in
    let l = c.in_ok-torrent_list-in-TorrentList in
    let h = subst (ListingOrFault a.p.profile Items.Torrents a.p.bytes.now (a.at + 1)) l.was c.torrent_list.ensures in
    held_torrents a.p.profile a.class a.p.bytes.now a.at (sym c.byte_at.ensures ∙ c.if-byte_at-ne108.false) l.field-0 c.listed-in-TorrentList.result c.listed-in-TorrentList.ensures c.in-TorrentList.is h

pub returns-in_err-torrent_list-in-TorrentList : goal.returns-in_err-torrent_list-in-TorrentList
returns-in_err-torrent_list-in-TorrentList c =
    let e = err_from_is_err_and c.from_residual.result c.from_residual.ensures.1 in
    rw (e.1, e.2) (held_fault c.args.p.profile c.args.p.bytes.now c.args.at (sym c.byte_at.ensures ∙ c.if-byte_at-ne108.false) c.in_err-torrent_list-in-TorrentList.field-0.0 c.in_err-torrent_list-in-TorrentList.ensures)

pub returns-in_default : goal.returns-in_default
returns-in_default c = only_walked c.args.p.profile c.args.class c.args.p.bytes.now c.args.at c.walked-in_default.result c.walked-in_default.ensures
