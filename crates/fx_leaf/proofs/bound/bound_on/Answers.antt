use Rattle.std.proofs.Common.{arith, rules}
use Rattle.fx_leaf.proofs.bound.bound_on.Goals as goal

pub returns-then-high-most-clause-some : goal.returns-then-high-most-clause-some
returns-then-high-most-clause-some c = first_of (grind arith, search rules)
