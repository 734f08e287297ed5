use Rattle.std.proofs.Common.{length}
use Rattle.fx_layout.proofs.layout.+parts_read.Given as goal

abbrev pub decreases-parts_read : goal.decreases-parts_read
decreases-parts_read l = length l.parts.now
