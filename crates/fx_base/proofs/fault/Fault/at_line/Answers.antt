use Rattle.std.proofs.Common.{arith, rules}
use Rattle.fx_base.proofs.fault.Fault.at_line.Goals as goal

pub returns : goal.returns
returns c = first_of (grind arith, search rules)
