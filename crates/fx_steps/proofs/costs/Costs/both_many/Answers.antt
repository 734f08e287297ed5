use Rattle.std.proofs.Common.{arith, rules}
use Rattle.fx_steps.proofs.costs.Costs.both_many.Goals as goal

pub returns : goal.returns
returns c = first_of (grind arith, search rules)
