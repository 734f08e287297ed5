use Rattle.std.proofs.Common.{arith, rules}
use Rattle.fx_base.proofs.name.is_name.Goals as goal

pub returns-then-text-le-LONGEST : goal.returns-then-text-le-LONGEST
returns-then-text-le-LONGEST c = first_of (grind arith, search rules)
