use Rattle.std.proofs.Common.{arith, rules}
use Rattle.fx_sums.proofs.sum.Sum.sort.Goals as goal

pub returns-clause-sorted : goal.returns-clause-sorted
returns-clause-sorted c = first_of (grind arith, search rules)
