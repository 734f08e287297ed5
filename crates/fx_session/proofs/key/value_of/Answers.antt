use Rattle.std.proofs.Common.{arith, rules}
use Rattle.fx_session.proofs.key.value_of.Goals as goal

pub returns-in-Some-2-clause-value : goal.returns-in-Some-2-clause-value
returns-in-Some-2-clause-value c = first_of (grind arith, search rules)
