use Rattle.std.proofs.Common.{arith, rules}
use Rattle.fx_checker.proofs.ending.finish_with.Goals as goal

pub returns-clause-answered : goal.returns-clause-answered
returns-clause-answered g c = first_of (grind arith, search rules)
