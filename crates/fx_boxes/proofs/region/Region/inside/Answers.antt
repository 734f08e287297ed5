use Rattle.std.proofs.Common.{arith, rules}
use Rattle.fx_boxes.proofs.region.Region.inside.Goals as goal

pub loop-k-preserved : goal.loop-k-preserved
loop-k-preserved c = first_of (grind arith, search rules)
