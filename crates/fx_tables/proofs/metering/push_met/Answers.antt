use Rattle.std.proofs.Common.{arith, rules}
use Rattle.fx_tables.proofs.metering.push_met.Goals as goal

pub returns-in_ok-push : goal.returns-in_ok-push
returns-in_ok-push c = first_of (grind arith, search rules)
