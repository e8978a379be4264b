-- `ipc::handshake_writer::write_handshake` meets its contract.
-- Assumes nothing.
use mathlib.Core.Path.{◌≡◌, sym, ◌∙◌}
use native.Mathlib.Omega.{arith}
use lib.ListN.{length}
use Rattle.std.specs.Prelude.{Some, None, Err}
use Rattle.std.proofs.lemmas.Result.{err_from_is_err_and}
use Rattle.ipc.specs.declared.writer.WriteRefusal.{WriteRefusal}
use Rattle.ipc.specs.HandshakeWriter.{handshake_payload, handshake_written}
use Rattle.ipc.proofs.writing.HandshakeWriterLaws.{written_range, written_none}
use Rattle.ipc.proofs.writing.WriterLaws.{leaves_same, leaves_refused}
use Rattle.ipc.proofs.frames.VersionLaws.{range_machine}
use Rattle.ipc.proofs.handshake_writer.write_handshake.Goals as goal

pub returns-in_err-ok_or : goal.returns-in_err-ok_or
returns-in_err-ok_or c =
    let a = c.args in
    let w = c.in_err-ok_or.was in
    let none : c.new.result ≡ None = rw w at c.ok_or.ensures.ok_part in
    let error : c.ok_or.result ≡ Err WriteRefusal.Value = rw none at c.ok_or.ensures.value in
    let e = err_from_is_err_and c.from_residual.result c.from_residual.ensures.1 in
    let r : c.from_residual.result ≡ Err WriteRefusal.Value = cc (error, w, e.1, e.2) in
    rw r (leaves_refused (handshake_written a.low a.high (length a.out.now)) (handshake_payload a.low a.high) a.out.now WriteRefusal.Value (written_none a.low a.high (length a.out.now) (sym (range_machine a.low a.high _ _ (omega arith) (omega arith) c.from.ensures c.from-2.ensures) ∙ sym c.new.ensures ∙ none)))

pub returns : goal.returns
returns c =
    let a = c.args in
    let some : c.new.result ≡ Some c.in_ok-ok_or.field-0 = rw c.in_ok-ok_or.was at c.ok_or.ensures.ok_part in
    leaves_same (written_range a.low a.high (length a.out.now) c.in_ok-ok_or.field-0 (sym (range_machine a.low a.high _ _ (omega arith) (omega arith) c.from.ensures c.from-2.ensures) ∙ sym c.new.ensures ∙ some)) c.write_range.ensures
