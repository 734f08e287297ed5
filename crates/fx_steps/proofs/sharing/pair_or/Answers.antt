use Rattle.std.proofs.Common.{arith, rules}
use Rattle.fx_steps.proofs.sharing.pair_or.Goals as goal

pub returns-then-pair_cost-cost : goal.returns-then-pair_cost-cost
returns-then-pair_cost-cost c = first_of (grind arith, search rules)
