use Rattle.std.proofs.Common.{length}
use Rattle.fx_steps.proofs.pending.StepPlan.+add_meetings.Given as goal

abbrev pub decreases-add_meetings : goal.decreases-add_meetings
decreases-add_meetings l = length l.occurrences.now
