use Rattle.std.proofs.Common.{arith, rules}
use Rattle.fx_net.proofs.opening.store_of.Goals as goal

pub returns-clause-ok : goal.returns-clause-ok
returns-clause-ok c = first_of (grind arith, search rules)

pub returns-then-eq-clause-ok : goal.returns-then-eq-clause-ok
returns-then-eq-clause-ok c = first_of (grind arith, search rules)
