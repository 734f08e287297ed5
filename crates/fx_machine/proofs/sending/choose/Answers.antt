use Rattle.std.proofs.Common.{arith, rules}
use Rattle.fx_machine.proofs.sending.choose.Goals as goal

pub returns-then-parallel-clause-ok : goal.returns-then-parallel-clause-ok
returns-then-parallel-clause-ok c = first_of (grind arith, search rules)
