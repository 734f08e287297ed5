use Rattle.std.proofs.Common.{List, slice_index_or, subst}
use Rattle.fx_leaf.specs.PathSelections.{IsApart, PathSelection}
use Rattle.fx_tests_network.proofs.leaf_filters.halved.Goals as goal

pub halving_bound-requires-clause-overlapping : goal.halving_bound-requires-clause-overlapping
halving_bound-requires-clause-overlapping c = λ k d less apart.
    c.narrow-active.ensures.overlapping k d less
    (subst (λ (zs : List PathSelection). IsApart c.args.region.now (slice_index_or zs k d).selection)
    c.judge-judged.ensures.kept apart)
