use Rattle.std.proofs.Common.{arith, rules}
use Rattle.fx_elements.proofs.axis.Axis.element_number.Goals as goal

pub returns-in-Source : goal.returns-in-Source
returns-in-Source c = first_of (grind arith, search rules)
