use Rattle.std.proofs.Common.{arith, rules}
use Rattle.fx_steps.proofs.wrong.cheaper_fate.Goals as goal

pub returns-then-cost_of-clause-one : goal.returns-then-cost_of-clause-one
returns-then-cost_of-clause-one c = first_of (grind arith, search rules)
