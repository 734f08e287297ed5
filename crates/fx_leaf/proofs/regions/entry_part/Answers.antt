use Rattle.fx_leaf.proofs.OverlapsAreRight.{entry_part_some, entry_part_none}
use Rattle.fx_leaf.proofs.regions.entry_part.Goals as goal

pub returns-in-Some-clause-some : goal.returns-in-Some-clause-some
returns-in-Some-clause-some c = entry_part_some c.args.entry c.args.region.now c.in-Some.above c.part_up_to.result
    c.least_of.result c.most_of.result c.least_of.ensures c.most_of.ensures c.in-Some.ensures.some
    c.part_up_to.ensures.some

pub returns-in-Some-clause-none : goal.returns-in-Some-clause-none
returns-in-Some-clause-none c = entry_part_none c.args.entry c.args.region.now c.in-Some.above c.part_up_to.result
    c.least_of.result c.most_of.result c.least_of.ensures c.most_of.ensures c.in-Some.ensures.some
    c.part_up_to.ensures.none
