use Rattle.std.proofs.Common.{rules}
use Rattle.canonical.proofs.walks.PickLaws.{each_option, past_told}
use Rattle.canonical.proofs.select.is_past.Goals as goal

pub returns : goal.returns
returns c =
    let a = c.args in
    past_told a.s.now a.last a.entry c.is_none_or.result (each_option a.last c.is_none_or.ensures (λ q. q) (λ l q. search rules))
