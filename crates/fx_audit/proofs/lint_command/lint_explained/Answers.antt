use Rattle.std.proofs.Common.{arith, rules}
use Rattle.fx_audit.proofs.lint_command.lint_explained.Goals as goal

pub returns-clause-ok : goal.returns-clause-ok
returns-clause-ok g c = first_of (grind arith, search rules)

pub returns-in_err-network_from-clause-answers : goal.returns-in_err-network_from-clause-answers
returns-in_err-network_from-clause-answers g c = first_of (grind arith, search rules)
