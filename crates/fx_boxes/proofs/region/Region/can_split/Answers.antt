use Rattle.std.proofs.Common.{arith, rules}
use Rattle.fx_boxes.proofs.region.Region.can_split.Goals as goal

pub returns-then-value_at-at : goal.returns-then-value_at-at
returns-then-value_at-at c = first_of (grind arith, search rules)
