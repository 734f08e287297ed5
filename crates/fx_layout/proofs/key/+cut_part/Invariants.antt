use Rattle.std.proofs.Common.{length}
use Rattle.fx_layout.proofs.key.+cut_part.Given as goal

abbrev pub decreases-cut_part : goal.decreases-cut_part
decreases-cut_part l = length l.parts.now
