use Rattle.std.proofs.Common.{arith, rules}
use Rattle.fx_net.proofs.exporting.export.Goals as goal

pub returns-else-parallel-clause-ok : goal.returns-else-parallel-clause-ok
returns-else-parallel-clause-ok c = first_of (grind arith, search rules)
