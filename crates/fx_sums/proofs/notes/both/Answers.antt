use Rattle.std.proofs.Common.{arith, rules}
use Rattle.fx_sums.proofs.notes.both.Goals as goal

pub returns-then-a : goal.returns-then-a
returns-then-a c = first_of (grind arith, search rules)
