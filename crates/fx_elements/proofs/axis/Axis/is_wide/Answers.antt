use Rattle.std.proofs.Common.{arith, rules}
use Rattle.fx_elements.proofs.axis.Axis.is_wide.Goals as goal

pub returns-in_default : goal.returns-in_default
returns-in_default c = first_of (grind arith, search rules)
