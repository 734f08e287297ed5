use Rattle.std.proofs.Common.{arith, rules}
use Rattle.fx_traffic.proofs.crossing.inwards_in.Goals as goal

pub returns-in-ingress : goal.returns-in-ingress
returns-in-ingress c = first_of (grind arith, search rules)
