use Rattle.std.proofs.Common.{arith, rules}
use Rattle.fx_boxes.proofs.region.Region.between.Goals as goal

pub returns-clause-value : goal.returns-clause-value
returns-clause-value c = first_of (grind arith, search rules)

pub loop-k-preserved : goal.loop-k-preserved
loop-k-preserved c = first_of (grind arith, search rules)
