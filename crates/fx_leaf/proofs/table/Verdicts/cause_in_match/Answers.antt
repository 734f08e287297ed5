use Rattle.std.proofs.Common.{arith, rules}
use Rattle.fx_leaf.proofs.table.Verdicts.cause_in_match.Goals as goal

pub returns-in-Nothing-clause-some : goal.returns-in-Nothing-clause-some
returns-in-Nothing-clause-some c = first_of (grind arith, search rules)

pub returns-in-Whole-clause-some : goal.returns-in-Whole-clause-some
returns-in-Whole-clause-some c = first_of (grind arith, search rules)
