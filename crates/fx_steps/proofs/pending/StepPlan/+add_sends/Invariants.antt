use Rattle.std.proofs.Common.{length}
use Rattle.fx_steps.proofs.pending.StepPlan.+add_sends.Given as goal

abbrev pub decreases-add_sends : goal.decreases-add_sends
decreases-add_sends l = length l.places.now
