use Rattle.std.proofs.Common.{arith, rules}
use Rattle.fx_net.proofs.contents.Contents.finish.Goals as goal

pub returns-clause-ok : goal.returns-clause-ok
returns-clause-ok g c = first_of (grind arith, search rules)

pub returns-clause-put : goal.returns-clause-put
returns-clause-put g c = first_of (grind arith, search rules)
