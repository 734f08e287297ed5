use Rattle.std.proofs.Common.{arith, rules}
use Rattle.fx_traffic.proofs.path.read_paths.Goals as goal

pub returns : goal.returns
returns g c = first_of (grind arith, search rules)
