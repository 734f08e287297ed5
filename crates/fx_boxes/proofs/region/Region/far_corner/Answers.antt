use Rattle.std.proofs.Common.{arith, rules}
use Rattle.fx_boxes.proofs.region.Region.far_corner.Goals as goal

pub returns-clause-greatest : goal.returns-clause-greatest
returns-clause-greatest c = first_of (grind arith, search rules)
