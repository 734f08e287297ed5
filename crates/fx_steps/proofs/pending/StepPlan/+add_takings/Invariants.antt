use Rattle.std.proofs.Common.{length}
use Rattle.fx_steps.proofs.pending.StepPlan.+add_takings.Given as goal

abbrev pub decreases-add_takings : goal.decreases-add_takings
decreases-add_takings l = length l.aggregations.now
