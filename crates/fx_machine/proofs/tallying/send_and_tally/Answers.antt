use Rattle.std.proofs.Common.{arith, rules}
use Rattle.fx_machine.proofs.tallying.send_and_tally.Goals as goal

pub returns-in-Err-clause-err : goal.returns-in-Err-clause-err
returns-in-Err-clause-err c = first_of (grind arith, search rules)
