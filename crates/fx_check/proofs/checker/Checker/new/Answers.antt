use Rattle.std.proofs.Common.{arith, rules}
use Rattle.fx_check.proofs.checker.Checker.new.Goals as goal

pub returns-clause-targets : goal.returns-clause-targets
returns-clause-targets c = first_of (grind arith, search rules)
