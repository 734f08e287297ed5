use Rattle.std.proofs.Common.{arith, rules}
use Rattle.fx_leaf.proofs.regions.selection_overlap.Goals as goal

pub returns-in-Some : goal.returns-in-Some
returns-in-Some c = first_of (grind arith, search rules)
