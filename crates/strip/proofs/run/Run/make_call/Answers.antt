-- `strip::run::Run::make_call` meets its contract.
-- Assumes nothing.
use mathlib.Core.Path.{◌≡◌, sym}
use lib.ListN.{length}
use lib.Seq.{length-take-le}
use Rattle.desk.specs.Codes.{done_count}
use Rattle.strip.proofs.running.AnswerLaws.{answer_within, answer_fits, performed_is}
use Rattle.strip.proofs.run.Run.make_call.Goals as goal

pub slice_bounds-frames-end : goal.slice_bounds-frames-end
slice_bounds-frames-end c = rw c.count.ensures (answer_within c.args.call c.args.self.desk c.perform-done.ensures)

pub slice_bounds-call_text-end : goal.slice_bounds-call_text-end
slice_bounds-call_text-end c = rw c.count.ensures (sym (length-take-le (done_count c.perform-done.result) c.perform-done.new.out (answer_within c.args.call c.args.self.desk c.perform-done.ensures)))

pub call_text-requires : goal.call_text-requires
call_text-requires c = let e : length c.perform-done.new.out ≡ 479 = c.frames-2-1.given in rw c.count.ensures (answer_fits c.args.call c.args.self.desk c.perform-done.ensures e)

pub returns : goal.returns
returns c = rw (c.with_desk.ensures, c.call_text.ensures, c.call_kind.ensures, c.code.ensures, c.count.ensures) (performed_is c.args.self c.args.call c.args.at c.perform-done.ensures)
