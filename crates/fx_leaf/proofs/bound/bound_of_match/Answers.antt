use Rattle.std.proofs.Common.{subst}
use Rattle.fx_boxes.specs.Boxes.{Holds}
use Rattle.fx_leaf.proofs.OverlapsAreRight.{match_none, match_some}
use Rattle.fx_leaf.proofs.CutsHaveBounds.{match_split, no_split, none_cut}
use Rattle.fx_leaf.proofs.bound.bound_of_match.Goals as goal

pub returns-in-None-clause-none : goal.returns-in-None-clause-none
returns-in-None-clause-none c =
    none_cut c.args.region.now c.args.entries.now
    (match_none c.args.region.now c.args.entries.now c.bounds_hold.ensures c.in-None.ensures.none)

pub returns-in-Some-clause-some : goal.returns-in-Some-clause-some
returns-in-Some-clause-some c =
    let left = c.in-Some.left in
    match_split c.args.region.now left c.args.entries.now c.bound.result c.bounds_hold.ensures c.in-Some.ensures.some
    (subst (Holds left) c.corner.ensures.least c.corner.ensures.held)
    (subst (Holds left) c.far_corner.ensures.greatest c.far_corner.ensures.held) c.bound.ensures.some

pub returns-in-Some-clause-none : goal.returns-in-Some-clause-none
returns-in-Some-clause-none c =
    no_split c.args.region.now c.in-Some.left c.args.entries.now c.bound.result
    (match_some c.args.region.now c.in-Some.left c.args.entries.now c.bounds_hold.ensures c.in-Some.ensures.some)
    c.bound.ensures.none
