use Rattle.std.proofs.Common.{arith, rules}
use Rattle.fx_machine.proofs.state.State.records_on.Goals as goal

pub returns : goal.returns
returns c = first_of (grind arith, search rules)
