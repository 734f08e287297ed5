use Rattle.std.proofs.Common.{arith, rules}
use Rattle.fx_tables.proofs.traffic.Class.exempt.Goals as goal

pub returns : goal.returns
returns c = first_of (grind arith, search rules)
