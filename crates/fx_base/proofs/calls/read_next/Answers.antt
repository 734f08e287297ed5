use Rattle.std.proofs.Common.{arith, rules}
use Rattle.fx_base.proofs.calls.read_next.Goals as goal

pub returns-clause-counted : goal.returns-clause-counted
returns-clause-counted g c = first_of (grind arith, search rules)

pub returns-clause-calls : goal.returns-clause-calls
returns-clause-calls g c = first_of (grind arith, search rules)
