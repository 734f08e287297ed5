use Rattle.std.proofs.Common.{arith, rules}
use Rattle.fx_search.proofs.searching.leaf_for.Goals as goal

pub returns-then-exempt-2-clause-is : goal.returns-then-exempt-2-clause-is
returns-then-exempt-2-clause-is c = first_of (grind arith, search rules)
