use Rattle.std.proofs.Common.{arith, rules}
use Rattle.fx_run_text.proofs.run.Run.into_parts.Goals as goal

pub returns-clause-packets : goal.returns-clause-packets
returns-clause-packets c = first_of (grind arith, search rules)
