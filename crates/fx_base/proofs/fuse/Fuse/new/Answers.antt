use Rattle.std.proofs.Common.{arith, rules}
use Rattle.fx_base.proofs.fuse.Fuse.new.Goals as goal

pub returns-clause-calls : goal.returns-clause-calls
returns-clause-calls g c = first_of (grind arith, search rules)
