use Rattle.std.proofs.Common.{arith, rules}
use Rattle.fx_topology.proofs.report.process_is_there.Goals as goal

pub returns : goal.returns
returns c = first_of (grind arith, search rules)
