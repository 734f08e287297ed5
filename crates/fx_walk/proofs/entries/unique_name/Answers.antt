use Rattle.std.proofs.Common.{arith, rules}
use Rattle.fx_walk.proofs.entries.unique_name.Goals as goal

pub returns-clause-reads : goal.returns-clause-reads
returns-clause-reads c = first_of (grind arith, search rules)
