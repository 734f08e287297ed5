use Rattle.std.proofs.Common.{arith, rules}
use Rattle.fx_wire.proofs.template.withdrawal.Goals as goal

pub returns-then-id-own : goal.returns-then-id-own
returns-then-id-own c = first_of (grind arith, search rules)
