use Rattle.std.proofs.Common.{length}
use Rattle.fx_plan.proofs.points.+process_named.Given as goal

abbrev pub decreases-process_named : goal.decreases-process_named
decreases-process_named l = length l.processes.now
