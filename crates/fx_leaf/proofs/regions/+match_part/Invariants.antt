use Rattle.std.proofs.Common.{length}
use Rattle.fx_leaf.proofs.regions.+match_part.Given as goal

abbrev pub decreases-match_part : goal.decreases-match_part
decreases-match_part l = length l.entries.now
