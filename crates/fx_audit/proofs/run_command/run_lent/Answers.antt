use Rattle.std.proofs.Common.{arith, rules}
use Rattle.fx_audit.proofs.run_command.run_lent.Goals as goal

pub returns-in-Err-clause-err : goal.returns-in-Err-clause-err
returns-in-Err-clause-err g c = first_of (grind arith, search rules)
