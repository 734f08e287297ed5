use Rattle.std.proofs.Common.{arith, rules}
use Rattle.fx_machine.proofs.coming.clear_mark.Goals as goal

pub returns : goal.returns
returns c = first_of (grind arith, search rules)
