use Rattle.std.proofs.Common.{arith, rules}
use Rattle.fx_audit.proofs.sum_command.add_lent.Goals as goal

pub returns-in_default-clause-ok : goal.returns-in_default-clause-ok
returns-in_default-clause-ok g c = first_of (grind arith, search rules)
