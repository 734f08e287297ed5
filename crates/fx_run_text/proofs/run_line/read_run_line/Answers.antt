use Rattle.std.proofs.Common.{arith, rules}
use Rattle.fx_run_text.proofs.run_line.read_run_line.Goals as goal

pub returns-in-Some : goal.returns-in-Some
returns-in-Some c = first_of (grind arith, search rules)
