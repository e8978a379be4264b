-- What is printed so far are the strip's first bytes.
use Rattle.strip.proofs.running.StepsLeft.{steps_left}
use Rattle.strip_run.proofs.Printing.{PrintedSoFar}
use Rattle.strip_run.proofs.run_strip.Given as goal

abbrev pub invariant-loop-run : goal.invariant-loop-run
invariant-loop-run g l = PrintedSoFar l.s (g.W.Write.contents l.initial.out) (g.W.Write.contents l.out) l.run

abbrev pub decreases-loop-run : goal.decreases-loop-run
decreases-loop-run g l = steps_left l.s l.run
