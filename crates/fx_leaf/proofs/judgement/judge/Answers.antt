use Rattle.std.proofs.Common.{arith, rules}
use Rattle.fx_leaf.proofs.judgement.judge.Goals as goal

pub returns-clause-judged : goal.returns-clause-judged
returns-clause-judged c = first_of (grind arith, search rules)
