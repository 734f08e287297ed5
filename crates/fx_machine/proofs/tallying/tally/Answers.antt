use Rattle.std.proofs.Common.{arith, rules}
use Rattle.fx_machine.proofs.tallying.tally.Goals as goal

pub returns-in-None-clause-ok : goal.returns-in-None-clause-ok
returns-in-None-clause-ok c = first_of (grind arith, search rules)
