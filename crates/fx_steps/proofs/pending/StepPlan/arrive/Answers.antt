use Rattle.std.proofs.Common.{arith, rules}
use Rattle.fx_steps.proofs.pending.StepPlan.arrive.Goals as goal

pub returns-clause-step : goal.returns-clause-step
returns-clause-step c = first_of (grind arith, search rules)
