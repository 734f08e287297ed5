use Rattle.std.proofs.Common.{arith, rules}
use Rattle.fx_leaf.proofs.entry.tally_verdict.Goals as goal

pub returns-else-refines : goal.returns-else-refines
returns-else-refines c = first_of (grind arith, search rules)
