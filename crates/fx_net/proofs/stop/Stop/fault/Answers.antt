use Rattle.std.proofs.Common.{arith, rules}
use Rattle.fx_net.proofs.stop.Stop.fault.Goals as goal

pub returns-in-Line : goal.returns-in-Line
returns-in-Line c = first_of (grind arith, search rules)
