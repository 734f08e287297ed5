use Rattle.std.proofs.Common.{length}
use Rattle.fx_steps.proofs.table.PacketCosts.+points_costs.Given as goal

abbrev pub decreases-points_costs : goal.decreases-points_costs
decreases-points_costs l = length l.points.now
