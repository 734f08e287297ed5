use Rattle.std.proofs.Common.{arith, rules}
use Rattle.fx_search.proofs.growing.Growth.open.Goals as goal

pub returns-clause-ahead : goal.returns-clause-ahead
returns-clause-ahead c = first_of (grind arith, search rules)
