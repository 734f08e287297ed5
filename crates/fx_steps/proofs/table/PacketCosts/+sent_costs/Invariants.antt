use Rattle.std.proofs.Common.{length}
use Rattle.fx_steps.proofs.table.PacketCosts.+sent_costs.Given as goal

abbrev pub decreases-sent_costs : goal.decreases-sent_costs
decreases-sent_costs l = length l.places.now
