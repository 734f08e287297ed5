use Rattle.std.proofs.Common.{arith, rules}
use Rattle.fx_leaf.proofs.leaf.fault_of.Goals as goal

pub returns-in-Many : goal.returns-in-Many
returns-in-Many c = first_of (grind arith, search rules)
