use Rattle.fx_leaf.proofs.OverlapsAreRight.{first_some, first_none}
use Rattle.fx_leaf.proofs.regions.+match_part.Goals as goal

pub returns-in-Some-clause-some : goal.returns-in-Some-clause-some
returns-in-Some-clause-some t c = first_some _ c.args.entries.now c.args.region.now c.in-Some.left c.match_part.result
    c.in-len1-up.len_at_least c.in-Some.ensures.some c.match_part.ensures.some

pub returns-in-Some-clause-none : goal.returns-in-Some-clause-none
returns-in-Some-clause-none t c = first_none _ c.args.entries.now c.args.region.now c.in-Some.left c.match_part.result
    c.in-len1-up.len_at_least c.in-Some.ensures.some c.match_part.ensures.none
