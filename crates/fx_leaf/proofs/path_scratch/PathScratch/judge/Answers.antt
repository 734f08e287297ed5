use Rattle.std.proofs.Common.{arith, rules}
use Rattle.fx_leaf.proofs.path_scratch.PathScratch.judge.Goals as goal

pub path_verdict-requires-clause-narrowed : goal.path_verdict-requires-clause-narrowed
path_verdict-requires-clause-narrowed c = first_of (grind arith, search rules)
