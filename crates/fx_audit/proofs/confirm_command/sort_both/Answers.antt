use Rattle.std.proofs.Common.{arith, rules}
use Rattle.fx_audit.proofs.confirm_command.sort_both.Goals as goal

pub returns-clause-plain : goal.returns-clause-plain
returns-clause-plain c = first_of (grind arith, search rules)
