use Rattle.std.proofs.Common.{arith, rules}
use Rattle.fx_callers.proofs.searches.counts_once.Goals as goal

pub returns : goal.returns
returns c = first_of (grind arith, search rules)
