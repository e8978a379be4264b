-- `bencode::skip::skip_value` meets its contract.
-- Assumes nothing.
use mathlib.Core.Path.{sym, ◌∙◌}
use Rattle.bencode.specs.Scalar.{scalar_at}
use Rattle.bencode.proofs.walking.Ends.{after_end}
use Rattle.bencode.proofs.lookup.SkipLaws.{scalar_skips}
use Rattle.bencode.proofs.skip.skip_value.Goals as goal

pub returns-in-Some : goal.returns-in-Some
returns-in-Some c =
    let s = c.args.s.now in
    let r = c.in-Some.end in
    sym (scalar_skips s c.args.at r (after_end (scalar_at s c.args.at) r (sym c.after_scalar.ensures ∙ c.in-Some.is)) 0)
