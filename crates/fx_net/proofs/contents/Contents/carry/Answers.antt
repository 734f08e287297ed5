use Rattle.std.proofs.Common.{arith, rules}
use Rattle.fx_net.proofs.contents.Contents.carry.Goals as goal

pub returns-clause-ok : goal.returns-clause-ok
returns-clause-ok c = first_of (grind arith, search rules)
