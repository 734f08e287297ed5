use Rattle.std.proofs.Common.{arith, rules}
use Rattle.fx_leaf.proofs.verdict.verdict_of_both.Goals as goal

pub returns : goal.returns
returns c = first_of (grind arith, search rules)
