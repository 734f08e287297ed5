use Rattle.std.proofs.Common.{arith, rules}
use Rattle.fx_cli.proofs.argument_errors.finish_arguments.Goals as goal

pub returns-in-Ok-clause-memory : goal.returns-in-Ok-clause-memory
returns-in-Ok-clause-memory g c = first_of (grind arith, search rules)
