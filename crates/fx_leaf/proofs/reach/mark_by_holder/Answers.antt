use Rattle.std.proofs.Common.{arith, rules}
use Rattle.fx_leaf.proofs.reach.mark_by_holder.Goals as goal

pub returns-then-number-lt-LAYOUTS : goal.returns-then-number-lt-LAYOUTS
returns-then-number-lt-LAYOUTS c = first_of (grind arith, search rules)
