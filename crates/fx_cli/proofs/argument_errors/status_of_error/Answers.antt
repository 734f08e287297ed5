use Rattle.std.proofs.Common.{arith, rules}
use Rattle.fx_cli.proofs.argument_errors.status_of_error.Goals as goal

pub returns-in-DisplayHelp-clause-status : goal.returns-in-DisplayHelp-clause-status
returns-in-DisplayHelp-clause-status c = first_of (grind arith, search rules)
