use Rattle.std.proofs.Common.{arith, rules}
use Rattle.fx_command_line.proofs.commands.file.Goals as goal

pub returns-clause-rule : goal.returns-clause-rule
returns-clause-rule c = first_of (grind arith, search rules)
