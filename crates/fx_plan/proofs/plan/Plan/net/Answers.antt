use Rattle.fx_ranks.proofs.RankedNetworks.{network}
use Rattle.fx_plan.proofs.plan.Plan.net.Goals as goal

pub returns-clause-network : goal.returns-clause-network
returns-clause-network c = rw c.deref.ensures
    (network c.self.inside.parts.value.net c.self.inside.parts.value.ranks.ranked.items c.self.invariant.whole
    c.self.invariant.fits)
