use Rattle.std.proofs.Common.{arith, rules}
use Rattle.fx_link.proofs.outlet.Outlet.flush.Goals as goal

pub invariant_of-self-2 : goal.invariant_of-self-2
invariant_of-self-2 c = first_of (grind arith, search rules)
