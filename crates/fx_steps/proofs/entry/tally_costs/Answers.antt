use Rattle.std.proofs.Common.{arith, rules}
use Rattle.fx_steps.proofs.entry.tally_costs.Goals as goal

pub returns-else-refines : goal.returns-else-refines
returns-else-refines c = first_of (grind arith, search rules)
