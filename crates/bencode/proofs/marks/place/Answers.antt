-- `bencode::marks::place` meets its contract.
-- Assumes nothing.
use mathlib.Core.Path.{refl}
use native.Mathlib.Omega.{arith}
use Rattle.bencode.specs.Marks.{place_of}
use Rattle.bencode.proofs.marks.place.Goals as goal

pub returns : goal.returns
unfolding place_of
returns c = (rw (c.from-first.ensures, c.byte_at.ensures, c.from.ensures, c.last.ensures) refl, omega arith)
