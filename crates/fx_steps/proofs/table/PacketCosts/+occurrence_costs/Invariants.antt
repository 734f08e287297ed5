use Rattle.std.proofs.Common.{length}
use Rattle.fx_steps.proofs.table.PacketCosts.+occurrence_costs.Given as goal

abbrev pub decreases-occurrence_costs : goal.decreases-occurrence_costs
decreases-occurrence_costs l = length l.occurrences.now
