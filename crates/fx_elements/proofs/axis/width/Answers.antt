use Rattle.std.proofs.Common.{arith, rules}
use Rattle.fx_elements.proofs.axis.width.Goals as goal

pub returns-in-Source6-clause-bits : goal.returns-in-Source6-clause-bits
returns-in-Source6-clause-bits c = first_of (grind arith, search rules)

pub returns-in-Protocol-clause-bits : goal.returns-in-Protocol-clause-bits
returns-in-Protocol-clause-bits c = first_of (grind arith, search rules)
