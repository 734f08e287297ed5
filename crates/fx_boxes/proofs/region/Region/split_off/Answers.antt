use Rattle.std.proofs.Common.{arith, rules}
use Rattle.fx_boxes.proofs.region.Region.split_off.Goals as goal

pub returns-clause-kept : goal.returns-clause-kept
returns-clause-kept c = first_of (grind arith, search rules)
