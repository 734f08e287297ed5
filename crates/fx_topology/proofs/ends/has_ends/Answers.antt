use Rattle.std.proofs.Common.{arith, rules}
use Rattle.fx_topology.proofs.ends.has_ends.Goals as goal

pub returns-then-has_start : goal.returns-then-has_start
returns-then-has_start c = first_of (grind arith, search rules)
