use Rattle.std.proofs.Common.{arith, rules}
use Rattle.fx_selectors.proofs.region.bounds_within.Goals as goal

pub returns : goal.returns
returns c = first_of (grind arith, search rules)
