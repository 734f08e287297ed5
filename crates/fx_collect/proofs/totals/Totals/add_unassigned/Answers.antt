use Rattle.std.proofs.Common.{arith, rules}
use Rattle.fx_collect.proofs.totals.Totals.add_unassigned.Goals as goal

pub returns : goal.returns
returns c = first_of (grind arith, search rules)
