use Rattle.std.proofs.Common.{arith, rules}
use Rattle.fx_callers.proofs.flows.room_for.Goals as goal

pub returns : goal.returns
returns c = first_of (grind arith, search rules)
