use Rattle.std.proofs.Common.{arith, rules}
use Rattle.fx_session.proofs.key.prefix_part.Goals as goal

pub returns-clause-part : goal.returns-clause-part
returns-clause-part c = first_of (grind arith, search rules)

pub returns-then-bits-from-clause-part : goal.returns-then-bits-from-clause-part
returns-then-bits-from-clause-part c = first_of (grind arith, search rules)
