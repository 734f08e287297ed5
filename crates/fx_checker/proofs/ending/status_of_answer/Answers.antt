use Rattle.std.proofs.Common.{arith, rules}
use Rattle.fx_checker.proofs.ending.status_of_answer.Goals as goal

pub returns-in-No-clause-status : goal.returns-in-No-clause-status
returns-in-No-clause-status c = first_of (grind arith, search rules)
