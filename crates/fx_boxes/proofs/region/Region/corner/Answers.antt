use Rattle.std.proofs.Common.{arith, rules}
use Rattle.fx_boxes.proofs.region.Region.corner.Goals as goal

pub returns-clause-least : goal.returns-clause-least
returns-clause-least c = first_of (grind arith, search rules)
