use Rattle.std.proofs.Common.{arith, rules}
use Rattle.fx_callers.proofs.flows.count_packet.Goals as goal

pub returns : goal.returns
returns g c = first_of (grind arith, search rules)
