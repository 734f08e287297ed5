use Rattle.std.proofs.Common.{arith, rules}
use Rattle.fx_elements.proofs.axis.Axis.prefix_number.Goals as goal

pub returns-in-Source6 : goal.returns-in-Source6
returns-in-Source6 c = first_of (grind arith, search rules)
