use Rattle.std.proofs.Common.{arith, rules}
use Rattle.fx_elements.proofs.element.by_id.Goals as goal

pub returns-in-1 : goal.returns-in-1
returns-in-1 c = first_of (grind arith, search rules)

pub returns-in-27 : goal.returns-in-27
returns-in-27 c = first_of (grind arith, search rules)

pub returns-in-169 : goal.returns-in-169
returns-in-169 c = first_of (grind arith, search rules)
