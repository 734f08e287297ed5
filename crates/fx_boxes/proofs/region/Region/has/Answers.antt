use Rattle.std.proofs.Common.{arith, rules}
use Rattle.fx_boxes.proofs.region.Region.has.Goals as goal

pub returns-then-value-value_at : goal.returns-then-value-value_at
returns-then-value-value_at c = first_of (grind arith, search rules)
