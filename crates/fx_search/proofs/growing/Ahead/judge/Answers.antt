use Rattle.std.proofs.Common.{◌≡◌, ap, ◌∙◌}
use Rattle.fx_traffic.specs.Targets.{Target}
use Rattle.fx_search.specs.Fronts.{RegionAhead}
use Rattle.fx_search.proofs.growing.Ahead.judge.Goals as goal

pub returns-clause-judged : goal.returns-clause-judged
returns-clause-judged c =
    let region : c.self.inside.region ≡ c.args.self.now.region = ap (λ (a : RegionAhead). a.region) c.self.view_is in
    let path : c.target.inside.crossings.now ≡ c.args.self.now.target.crossings =
    ap (λ (t : Target). t.crossings) c.target.view_is ∙ ap (λ (a : RegionAhead). a.target.crossings) c.self.view_is
    in
    rw (← region, ← path) c.judge.ensures.judged
