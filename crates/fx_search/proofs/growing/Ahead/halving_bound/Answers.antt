use Rattle.std.proofs.Common.{◌≡◌, ◌∙◌, IfOk, List, ap, slice_index_or, subst}
use Rattle.fx_boxes.specs.Boxes.{Bounds}
use Rattle.fx_leaf.specs.PathSelections.{IsApart}
use Rattle.fx_leaf.specs.Splits.{IsSplit}
use Rattle.fx_tables.specs.declared.traffic.Crossing.{Crossing}
use Rattle.fx_traffic.specs.Targets.{Target}
use Rattle.fx_search.specs.Fronts.{RegionAhead}
use Rattle.fx_search.proofs.growing.Ahead.halving_bound.Goals as goal

pub halving_bound-requires-clause-overlapping : goal.halving_bound-requires-clause-overlapping
halving_bound-requires-clause-overlapping c = λ k d less apart.
    let region : c.self.inside.region ≡ c.args.self.now.region = ap (λ (a : RegionAhead). a.region) c.self.view_is in
    c.requires.overlapping k d less (subst (λ (b : Bounds). IsApart b
    (slice_index_or c.args.scratch.now.selections k d).selection) region apart)

pub returns-clause-ok : goal.returns-clause-ok
returns-clause-ok c =
    let net = c.args.tables.now.net in
    let at = c.args.other in
    let here = c.args.self.now in
    let region : c.self.inside.region ≡ here.region = ap (λ (a : RegionAhead). a.region) c.self.view_is in
    let path : c.target.inside.crossings.now ≡ here.target.crossings = ap (λ (t : Target). t.crossings) c.target.view_is
    ∙ ap (λ (a : RegionAhead). a.target.crossings) c.self.view_is in
    let there = subst (λ (b : Bounds). IfOk c.halving_bound.result
    (λ s. IsSplit net c.target.inside.crossings.now b at.0 at.1
    → IsSplit net c.target.inside.crossings.now b s.0 s.1)) region c.halving_bound.ensures.ok in
    subst (λ (way : List Crossing). IfOk c.halving_bound.result
    (λ s. IsSplit net way here.region at.0 at.1 → IsSplit net way here.region s.0 s.1)) path there
