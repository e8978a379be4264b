-- `c_api::write::write_offered` meets its contract.
-- Assumes nothing.
use mathlib.Core.Path.{sym, ap}
use Rattle.ipc.proofs.writing.WriterLaws.{leaves_refused}
use Rattle.c_api.proofs.answers.AnswerLaws.{leaves_as}
use Rattle.c_api.proofs.write.write_offered.Goals as goal
use Rattle.std.specs.Prelude.{ℕ, Result, Err, None, Some}
use Rattle.ipc.specs.declared.writer.WriteRefusal.{WriteRefusal}

abbrev refused : WriteRefusal → Result ℕ WriteRefusal
refused w = Err w

pub returns-in-Some : goal.returns-in-Some
returns-in-Some c = leaves_as c.args.key c.args.tag c.args.s.now c.args.out.now _ _ (Some c.in-Some.given) c.in-Some.is c.write.ensures

pub returns-in-None : goal.returns-in-None
returns-in-None c = leaves_as c.args.key c.args.tag c.args.s.now c.args.out.now _ _ None c.in-None.is (leaves_refused _ _ _ _ (ap refused (sym c.unknown_refusal.ensures)))
