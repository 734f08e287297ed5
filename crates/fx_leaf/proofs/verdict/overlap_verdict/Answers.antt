use Rattle.std.proofs.Common.{arith, rules}
use Rattle.fx_leaf.proofs.verdict.overlap_verdict.Goals as goal

pub returns-in-Part : goal.returns-in-Part
returns-in-Part c = first_of (grind arith, search rules)
