use Rattle.std.proofs.Common.{length}
use Rattle.fx_steps.proofs.table.PacketCosts.+cheapest_place.Given as goal

abbrev pub decreases-cheapest_place : goal.decreases-cheapest_place
decreases-cheapest_place l = length l.destinations.now
