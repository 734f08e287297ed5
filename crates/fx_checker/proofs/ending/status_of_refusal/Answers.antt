use Rattle.std.proofs.Common.{arith, rules}
use Rattle.fx_checker.proofs.ending.status_of_refusal.Goals as goal

pub returns-in-900-clause-status : goal.returns-in-900-clause-status
returns-in-900-clause-status c = first_of (grind arith, search rules)
