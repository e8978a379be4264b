use Rattle.ipc.proofs.headers.HeaderLaws.{Heading}
use Rattle.ipc.proofs.header.read_header.Given as goal

abbrev pub invariant-loop-i : goal.invariant-loop-i
invariant-loop-i l = Heading l.s l.value l.i
