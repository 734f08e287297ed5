use Rattle.std.proofs.Common.{arith, rules}
use Rattle.fx_search.proofs.growing.Ahead.least_packet.Goals as goal

pub returns-clause-is : goal.returns-clause-is
returns-clause-is c = first_of (grind arith, search rules)
