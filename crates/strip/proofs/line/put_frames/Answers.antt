-- `strip::line::put_frames` meets its contract.
-- Assumes nothing.
use mathlib.Core.Path.{sym, ◌∙◌}
use borrow.Author.Tests.{eqb-true, eqb-false}
use lib.ListN.{length}
use Rattle.strip.proofs.printing.LineLaws.{no_frames, frames_put}
use Rattle.strip.proofs.line.put_frames.Goals as goal

pub returns-then-is_empty : goal.returns-then-is_empty
returns-then-is_empty c =
    no_frames c.args.out.now c.args.at c.args.frames.now (eqb-true (length c.args.frames.now) 0 (sym c.is_empty.ensures ∙ c.if-is_empty.true))

pub returns : goal.returns
returns c = frames_put (eqb-false (length c.args.frames.now) 0 (sym c.is_empty.ensures ∙ c.if-is_empty.false)) c.requires c.put_bytes-o.ensures c.put_bytes.ensures
