-- `strip::line::word_text` meets its contract.
-- Assumes nothing.
use native.Mathlib.Omega.{arith}
use Rattle.octets.proofs.writing.PutLaws.{next_put}
use Rattle.strip.specs.Line.{word_text}
use Rattle.strip.proofs.printing.LineLaws.{word_start, word_done}
use Rattle.strip.proofs.line.word_text.Goals as goal

pub returns : goal.returns
unfolding word_text
returns c =
    let word = c.args.word.now in
    let n = c.args.n in
    let w = word_start word n c.requires (omega (arith, c.ranges.n)) in
    word_done word n _ _ w (next_put (next_put (next_put w c.put_bytes-o.ensures) c.put_decimal-o.ensures) c.put_bytes-length.ensures)
