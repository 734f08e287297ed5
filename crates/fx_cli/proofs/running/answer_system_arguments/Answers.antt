use Rattle.std.proofs.Common.{arith, rules}
use Rattle.fx_cli.proofs.running.answer_system_arguments.Goals as goal

pub returns-in-Err-clause-unread : goal.returns-in-Err-clause-unread
returns-in-Err-clause-unread g c = first_of (grind arith, search rules)
