use Rattle.std.proofs.Common.{arith, rules}
use Rattle.fx_collect.proofs.totals.Totals.tally.Goals as goal

pub returns-clause-ok : goal.returns-clause-ok
returns-clause-ok c = first_of (grind arith, search rules)
