use Rattle.std.proofs.Common.{arith, rules}
use Rattle.fx_search.proofs.growing.Growth.add.Goals as goal

pub returns-clause-lines : goal.returns-clause-lines
returns-clause-lines c = first_of (grind arith, search rules)
