use Rattle.std.proofs.Common.{arith, rules}
use Rattle.fx_explain_streams.proofs.collections.put_left_out.Goals as goal

pub returns-clause-ok : goal.returns-clause-ok
returns-clause-ok g c = first_of (grind arith, search rules)
