use Rattle.std.proofs.Common.{length}
use Rattle.fx_steps.proofs.table.PacketCosts.+with_selections.Given as goal

abbrev pub decreases-with_selections : goal.decreases-with_selections
decreases-with_selections l = length l.selections.now
