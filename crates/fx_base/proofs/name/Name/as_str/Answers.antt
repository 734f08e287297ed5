use Rattle.std.proofs.Common.{arith, rules}
use Rattle.fx_base.proofs.name.Name.as_str.Goals as goal

pub returns-clause-text : goal.returns-clause-text
returns-clause-text c = first_of (grind arith, search rules)
