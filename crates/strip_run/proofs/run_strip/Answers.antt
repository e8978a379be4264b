-- `strip_run::run_strip` prints the strip's bytes and ends: each step prints its part, and what is left of the run falls.
-- Assumes nothing.
use borrow.Author.Tests.{not-true, not-false}
use Rattle.std.specs.Io.KnownBytes.{Appends}
use Rattle.strip.specs.Line.{output_bytes}
use Rattle.strip.specs.Run.{stepped}
use Rattle.strip.proofs.running.StepsLeft.{step_falls}
use Rattle.strip_run.proofs.Printing.{at_start, at_step, at_end}
use Rattle.strip_run.proofs.run_strip.Goals as goal

pub loop-run-init : goal.loop-run-init
loop-run-init g c = rw c.begin-run.ensures (at_start c.args.s.now (g.W.Write.contents c.args.out.now))

pub loop-run-smaller : goal.loop-run-smaller
loop-run-smaller g c = rw c.next_step-step.ensures (step_falls c.args.s.now c.loop-run.run (not-true c.loop-run.run.over c.loop-run-test.true))

pub loop-run-preserved : goal.loop-run-preserved
loop-run-preserved g c =
    let W = g.W.Write.contents in
    let s = c.args.s.now in
    let run = c.loop-run.run in
    let put : Appends (W c.loop-run.out) (W c.write_all.new.self) (output_bytes (stepped s run).output) = rw (← c.next_step-step.ensures, ← c.text.ensures) c.in_ok-write_all.ensures.bytes in
    rw c.next_step-step.ensures (at_step s (W c.args.out.now) (W c.loop-run.out) (W c.write_all.new.self) run (not-true run.over c.loop-run-test.true) c.loop-run.invariant put)

pub returns : goal.returns
returns g c = at_end c.args.s.now (g.W.Write.contents c.args.out.now) (g.W.Write.contents c.loop-run.out) c.loop-run.run (not-false c.loop-run.run.over c.loop-run-test.false) c.loop-run.invariant
