use Rattle.std.proofs.Common.{arith, rules}
use Rattle.fx_leaf.proofs.leaf.never_of.Goals as goal

pub returns-in-Once-clause-ok : goal.returns-in-Once-clause-ok
returns-in-Once-clause-ok c = first_of (grind arith, search rules)
