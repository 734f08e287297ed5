use Rattle.std.proofs.Common.{arith, rules}
use Rattle.fx_base.proofs.name.Name.read.Goals as goal

pub returns-then-not-is_name-clause-err : goal.returns-then-not-is_name-clause-err
returns-then-not-is_name-clause-err c = first_of (grind arith, search rules)
