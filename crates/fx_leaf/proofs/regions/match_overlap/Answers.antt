use Rattle.std.proofs.Common.{◌∙◌}
use Rattle.fx_leaf.proofs.OverlapsAreRight.{match_none, match_some}
use Rattle.fx_leaf.proofs.regions.match_overlap.Goals as goal

pub returns-in-None : goal.returns-in-None
returns-in-None c = match_none c.args.region.now c.args.entries.now c.bounds_hold.ensures c.in-None.ensures.none

pub returns-in-Some : goal.returns-in-Some
returns-in-Some c = c.region_overlap.ensures
    ∙ match_some c.args.region.now c.in-Some.left c.args.entries.now c.bounds_hold.ensures c.in-Some.ensures.some
