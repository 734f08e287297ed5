use Rattle.std.proofs.Common.{arith, rules}
use Rattle.fx_link.proofs.outlet.Outlet.joins.Goals as goal

pub returns-then-same : goal.returns-then-same
returns-then-same c = first_of (grind arith, search rules)
