use Rattle.std.proofs.Common.{arith, rules}
use Rattle.fx_command_line.proofs.words.join_call.Goals as goal

pub returns : goal.returns
returns c = first_of (grind arith, search rules)
