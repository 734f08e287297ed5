use Rattle.std.proofs.Common.{arith, rules}
use Rattle.fx_machine.proofs.state.State.open.Goals as goal

pub open_classed-requires : goal.open_classed-requires
open_classed-requires c = first_of (grind arith, search rules)
