use Rattle.std.proofs.Common.{◌∙◌, ap, List, ℕ}
use Rattle.fx_leaf.specs.declared.verdict.Fate.{Fate}
use Rattle.fx_steps.specs.Costs.{limited_sum, cost_of}
use Rattle.fx_steps.specs.Spread.{first_pair}
use Rattle.fx_steps.proofs.RecordsBehind.{rest_is}
use Rattle.fx_steps.proofs.SharesCost.{first_or_later}
use Rattle.fx_steps.proofs.sharing.+first_pair.Goals as goal

pub returns-in-len1-up : goal.returns-in-len1-up
returns-in-len1-up t c =
    let v : Fate × Fate → ℕ = λ p. limited_sum (cost_of c.args.one p.0) (cost_of c.args.other p.1) in
    c.pair_or.ensures ∙ first_or_later v c.args.pairs.now c.args.cost c.first_pair-later.result
    c.in-len1-up.len_at_least (c.first_pair-later.ensures
    ∙ ap (λ (ps : List (Fate × Fate)). first_pair v ps c.args.cost) (rest_is 1 c.args.pairs.now))
