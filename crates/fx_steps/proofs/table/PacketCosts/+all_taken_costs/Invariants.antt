use Rattle.std.proofs.Common.{length}
use Rattle.fx_steps.proofs.table.PacketCosts.+all_taken_costs.Given as goal

abbrev pub decreases-all_taken_costs : goal.decreases-all_taken_costs
decreases-all_taken_costs l = length l.aggregations.now
