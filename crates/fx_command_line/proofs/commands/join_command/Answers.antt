use Rattle.std.proofs.Common.{arith, rules}
use Rattle.fx_command_line.proofs.commands.join_command.Goals as goal

pub returns-clause-app : goal.returns-clause-app
returns-clause-app c = first_of (grind arith, search rules)
