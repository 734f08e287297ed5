use Rattle.std.proofs.Common.{arith, rules}
use Rattle.fx_base.proofs.put.put_number.Goals as goal

pub returns-clause-ok : goal.returns-clause-ok
returns-clause-ok g c = first_of (grind arith, search rules)
