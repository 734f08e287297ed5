use Rattle.std.proofs.Common.{◌≡◌, ap, slice_index_or, subst, sym}
use Rattle.fx_boxes.specs.Boxes.{Bounds}
use Rattle.fx_leaf.specs.PathSelections.{IsApart}
use Rattle.fx_search.specs.Fronts.{RegionAhead}
use Rattle.fx_search.proofs.growing.Ahead.narrow.Goals as goal

pub returns-clause-overlapping : goal.returns-clause-overlapping
returns-clause-overlapping c = λ k d less apart.
    let region : c.self.inside.region ≡ c.args.self.now.region = ap (λ (a : RegionAhead). a.region) c.self.view_is in
    c.narrow.ensures.overlapping k d less (subst
    (λ (b : Bounds). IsApart b (slice_index_or c.narrow.new.self.selections k d).selection) (sym region) apart)
