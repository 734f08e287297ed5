use Rattle.std.proofs.Common.{length}
use Rattle.fx_steps.proofs.pending.StepPlan.+add_to_all.Given as goal

abbrev pub decreases-add_to_all : goal.decreases-add_to_all
decreases-add_to_all l = length l.destinations.now
