use mathlib.Core.Path.{◌≡◌}
use lib.ListN.{length}
use Rattle.bencode.specs.Utf8.{text_from, is_text}
use Rattle.bencode.proofs.text.is_text.Given as goal

abbrev pub invariant-loop-b : goal.invariant-loop-b
invariant-loop-b l = text_from l.left l.low l.high l.rest ≡ is_text l.x

abbrev pub decreases-loop-b : goal.decreases-loop-b
decreases-loop-b l = length l.rest
