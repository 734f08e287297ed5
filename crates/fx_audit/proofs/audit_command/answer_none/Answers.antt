use Rattle.std.proofs.Common.{arith, rules}
use Rattle.fx_audit.proofs.audit_command.answer_none.Goals as goal

pub returns-clause-ok : goal.returns-clause-ok
returns-clause-ok g c = first_of (grind arith, search rules)
