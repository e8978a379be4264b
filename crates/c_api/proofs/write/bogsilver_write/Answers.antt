-- `c_api::write::bogsilver_write` meets its contract.
-- Assumes nothing.
use mathlib.Core.Path.{◌≡◌, sym}
use lib.ListN.{length}
use mir.Syntax.{w64}
use mir.ValLaws.{to_z-of_z}
use Rattle.ipc.specs.declared.writer.WriteRefusal.{WriteRefusal}
use Rattle.c_api.specs.Offered.{offered}
use Rattle.c_api.proofs.answers.AnswerLaws.{leaves_numbers, refused_numbers, key_refused, leaves_as}
use Rattle.c_api.proofs.write.bogsilver_write.Goals as goal

pub returns-then-key-gt255 : goal.returns-then-key-gt255
returns-then-key-gt255 c =
    let a = c.args in
    refused_numbers _ _ _ WriteRefusal.Key (key_refused a.key c.if-key-gt255.true (offered a.kind a.integer) a.s.now a.tag (length a.out.now)).0 c.write_answer_of.ensures

pub returns : goal.returns
returns c =
    let a = c.args in
    let value : offered a.kind a.integer ≡ c.offered_of-value.result = sym (rw (to_z-of_z w64 a.integer c.ranges.integer) at c.offered_of-value.ensures) in
    leaves_numbers (leaves_as a.key a.tag a.s.now a.out.now _ _ c.offered_of-value.result value c.write_offered.ensures) c.write_answer_of-2.ensures
