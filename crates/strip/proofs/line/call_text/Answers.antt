-- `strip::line::call_text` meets its contract.
-- Assumes nothing.
use native.Mathlib.Omega.{arith}
use Rattle.strip.proofs.printing.LineLaws.{frames_fit, call_done}
use Rattle.strip.proofs.line.call_text.Goals as goal

pub put_frames-length-requires : goal.put_frames-length-requires
put_frames-length-requires c = frames_fit c.args.kind c.args.code c.args.frames.now (omega (arith, c.ranges.kind)) (omega (arith, c.ranges.code)) c.requires c.put_call-o.ensures

pub returns : goal.returns
returns c = call_done c.args.kind c.args.code c.args.frames.now (omega (arith, c.ranges.kind)) (omega (arith, c.ranges.code)) c.requires c.put_call-o.ensures c.put_frames-length.ensures
