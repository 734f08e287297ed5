use Rattle.std.proofs.Common.{arith, rules}
use Rattle.fx_traffic.proofs.region.span.Goals as goal

pub returns-clause-value : goal.returns-clause-value
returns-clause-value c = first_of (grind arith, search rules)
