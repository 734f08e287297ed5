use Rattle.std.proofs.Common.{length}
use Rattle.fx_steps.proofs.table.PacketCosts.+path_costs.Given as goal

abbrev pub decreases-path_costs : goal.decreases-path_costs
decreases-path_costs l = length l.path.now
