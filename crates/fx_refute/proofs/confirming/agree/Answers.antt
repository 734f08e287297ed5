use Rattle.std.proofs.Common.{arith, rules}
use Rattle.fx_refute.proofs.confirming.agree.Goals as goal

pub returns-then-len : goal.returns-then-len
returns-then-len c = first_of (grind arith, search rules)
