-- `ipc::reader::read_length` meets its contract.
-- Assumes nothing.
use mathlib.Core.Path.{ap, ◌∙◌}
use native.Mathlib.Omega.{arith}
use Prim.Native.Nat.{ℕ, ◌+◌}
use Rattle.octets.specs.Bytes.{slice}
use Rattle.ipc.specs.Reader.{payload_reading}
use Rattle.ipc.proofs.frames.ReaderLaws.{length_short, length_there}
use Rattle.ipc.proofs.reader.read_length.Goals as goal

pub returns-then-s-end : goal.returns-then-s-end
returns-then-s-end c = length_short c.args.profile c.args.s.now c.args.length.0 (omega (arith, c.number.ensures))

pub returns : goal.returns
returns c = c.read_payload.ensures ∙ ap (λ (n : ℕ). payload_reading c.args.profile (slice c.args.s.now 8 (8 + n))) c.number.ensures ∙ length_there c.args.profile c.args.s.now c.args.length.0 (omega (arith, c.number.ensures, c.if-s-end.false))
