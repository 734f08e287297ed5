use Rattle.std.proofs.Common.{arith, rules}
use Rattle.fx_base.proofs.lines.fault_of_stop.Goals as goal

pub returns-in-TooLong : goal.returns-in-TooLong
returns-in-TooLong c = first_of (grind arith, search rules)
