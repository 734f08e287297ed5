use Rattle.std.proofs.Common.{arith, rules}
use Rattle.fx_walk.proofs.path.refusal.Goals as goal

pub returns-in-Ok : goal.returns-in-Ok
returns-in-Ok c = first_of (grind arith, search rules)
