use Rattle.std.proofs.Common.{arith, rules}
use Rattle.fx_walk.proofs.scalar.Whole.number.Goals as goal

pub returns-clause-value : goal.returns-clause-value
returns-clause-value g c = first_of (grind arith, search rules)
