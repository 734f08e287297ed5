use Rattle.std.proofs.Common.{arith, rules}
use Rattle.fx_traffic.proofs.region.values_on.Goals as goal

pub returns-in-Some-single_on-clause-value : goal.returns-in-Some-single_on-clause-value
returns-in-Some-single_on-clause-value c = first_of (grind arith, search rules)
