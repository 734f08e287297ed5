use Rattle.std.proofs.Common.{arith, rules}
use Rattle.fx_machine.proofs.state.State.step.Goals as goal

pub returns-in-Cross-clause-ok : goal.returns-in-Cross-clause-ok
returns-in-Cross-clause-ok c = first_of (grind arith, search rules)
