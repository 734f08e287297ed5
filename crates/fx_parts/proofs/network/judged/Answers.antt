use Rattle.std.proofs.Common.{arith, rules}
use Rattle.fx_parts.proofs.network.judged.Goals as goal

pub returns-then-all_below : goal.returns-then-all_below
returns-then-all_below c = first_of (grind arith, search rules)
