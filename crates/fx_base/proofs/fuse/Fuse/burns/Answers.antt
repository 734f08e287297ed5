use Rattle.std.proofs.Common.{arith, rules}
use Rattle.fx_base.proofs.fuse.Fuse.burns.Goals as goal

pub returns-clause-burns : goal.returns-clause-burns
returns-clause-burns g c = first_of (grind arith, search rules)
