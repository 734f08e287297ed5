use Rattle.std.proofs.Common.{arith, rules}
use Rattle.fx_checker.proofs.ending.put_and_end.Goals as goal

pub returns : goal.returns
returns g c = first_of (grind arith, search rules)
