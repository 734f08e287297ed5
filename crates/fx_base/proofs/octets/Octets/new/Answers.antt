use Rattle.std.proofs.Common.{arith, rules}
use Rattle.fx_base.proofs.octets.Octets.new.Goals as goal

pub returns-clause-calls : goal.returns-clause-calls
returns-clause-calls c = first_of (grind arith, search rules)

pub returns-clause-octets : goal.returns-clause-octets
returns-clause-octets c = first_of (grind arith, search rules)
