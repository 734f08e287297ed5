use Rattle.std.proofs.Common.{arith, rules}
use Rattle.fx_net.proofs.holding.is_immediate.Goals as goal

pub returns : goal.returns
returns c = first_of (grind arith, search rules)
