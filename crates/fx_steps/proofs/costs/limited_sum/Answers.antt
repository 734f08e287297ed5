use Rattle.std.proofs.Common.{arith, rules}
use Rattle.fx_steps.proofs.costs.limited_sum.Goals as goal

pub returns : goal.returns
returns c = first_of (grind arith, search rules)
