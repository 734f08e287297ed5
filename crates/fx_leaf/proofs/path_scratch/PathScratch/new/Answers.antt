use Rattle.std.proofs.Common.{arith, rules}
use Rattle.fx_leaf.proofs.path_scratch.PathScratch.new.Goals as goal

pub returns-clause-ok : goal.returns-clause-ok
returns-clause-ok c = first_of (grind arith, search rules)
