use Rattle.std.proofs.Common.{arith, rules}
use Rattle.fx_run_text.proofs.run_put.put_choice.Goals as goal

pub returns-in-None-clause-ok : goal.returns-in-None-clause-ok
returns-in-None-clause-ok g c = first_of (grind arith, search rules)
