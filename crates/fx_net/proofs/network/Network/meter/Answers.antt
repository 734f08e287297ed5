use Rattle.std.proofs.Common.{arith, rules}
use Rattle.fx_net.proofs.network.Network.meter.Goals as goal

pub returns-clause-ok : goal.returns-clause-ok
returns-clause-ok c = first_of (grind arith, search rules)

pub returns-in_err-cross_all-clause-soon : goal.returns-in_err-cross_all-clause-soon
returns-in_err-cross_all-clause-soon c = first_of (grind arith, search rules)
