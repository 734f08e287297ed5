use Rattle.std.proofs.Common.{arith, rules}
use Rattle.fx_walk.proofs.sequence.Sequence.as_slice.Goals as goal

pub returns : goal.returns
returns g c = first_of (grind arith, search rules)
