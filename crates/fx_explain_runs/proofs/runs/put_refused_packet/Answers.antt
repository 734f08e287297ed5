use Rattle.std.proofs.Common.{arith, rules}
use Rattle.fx_explain_runs.proofs.runs.put_refused_packet.Goals as goal

pub returns-clause-ok : goal.returns-clause-ok
returns-clause-ok g c = first_of (grind arith, search rules)
