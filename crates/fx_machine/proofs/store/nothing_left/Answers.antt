use Rattle.std.proofs.Common.{arith, rules}
use Rattle.fx_machine.proofs.store.nothing_left.Goals as goal

pub returns-then-all_empty : goal.returns-then-all_empty
returns-then-all_empty c = first_of (grind arith, search rules)
