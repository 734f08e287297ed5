use Rattle.std.proofs.Common.{length}
use Rattle.fx_steps.proofs.table.PacketCosts.+all_destinations_costs.Given as goal

abbrev pub decreases-all_destinations_costs : goal.decreases-all_destinations_costs
decreases-all_destinations_costs l = length l.destinations.now
