use Rattle.std.proofs.Common.{arith, rules}
use Rattle.fx_steps.proofs.pending.StepPlan.add_holding.Goals as goal

pub returns-clause-added : goal.returns-clause-added
returns-clause-added c = first_of (grind arith, search rules)
