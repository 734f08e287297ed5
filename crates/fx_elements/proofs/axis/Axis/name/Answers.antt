use Rattle.std.proofs.Common.{arith, rules}
use Rattle.fx_elements.proofs.axis.Axis.name.Goals as goal

pub returns : goal.returns
returns c = first_of (grind arith, search rules)
