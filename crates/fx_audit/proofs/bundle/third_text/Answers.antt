use Rattle.std.proofs.Common.{arith, rules}
use Rattle.fx_audit.proofs.bundle.third_text.Goals as goal

pub returns-in-Audit-clause-some : goal.returns-in-Audit-clause-some
returns-in-Audit-clause-some c = first_of (grind arith, search rules)
