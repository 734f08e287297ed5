use Rattle.std.proofs.Common.{arith, rules}
use Rattle.fx_net.proofs.taking.take.Goals as goal

pub returns-clause-passing : goal.returns-clause-passing
returns-clause-passing c = first_of (grind arith, search rules)
