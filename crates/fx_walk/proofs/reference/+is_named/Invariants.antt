use Rattle.std.proofs.Common.{length}
use Rattle.fx_walk.proofs.reference.+is_named.Given as goal

abbrev pub decreases-is_named : goal.decreases-is_named
decreases-is_named g l = length l.entries.now
