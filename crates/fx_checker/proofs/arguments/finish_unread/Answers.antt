use Rattle.std.proofs.Common.{arith, rules}
use Rattle.fx_checker.proofs.arguments.finish_unread.Goals as goal

pub returns-in-OutOfMemory-clause-ended : goal.returns-in-OutOfMemory-clause-ended
returns-in-OutOfMemory-clause-ended g c = first_of (grind arith, search rules)
