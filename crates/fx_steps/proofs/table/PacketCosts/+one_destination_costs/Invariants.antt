use Rattle.std.proofs.Common.{length}
use Rattle.fx_steps.proofs.table.PacketCosts.+one_destination_costs.Given as goal

abbrev pub decreases-one_destination_costs : goal.decreases-one_destination_costs
decreases-one_destination_costs l = length l.destinations.now
