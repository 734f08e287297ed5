use Rattle.std.proofs.Common.{length}
use Rattle.fx_layout.proofs.key.+values_before.Given as goal

abbrev pub decreases-values_before : goal.decreases-values_before
decreases-values_before l = length l.a.now
