use Rattle.std.proofs.Common.{arith, rules}
use Rattle.fx_elements.proofs.axis.Axis.prefix_length_number.Goals as goal

pub returns-in-Destination6 : goal.returns-in-Destination6
returns-in-Destination6 c = first_of (grind arith, search rules)
