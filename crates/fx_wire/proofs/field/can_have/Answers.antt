use Rattle.std.proofs.Common.{arith, rules}
use Rattle.fx_wire.proofs.field.can_have.Goals as goal

pub returns-then-is_address : goal.returns-then-is_address
returns-then-is_address c = first_of (grind arith, search rules)

pub returns-in-Prefix : goal.returns-in-Prefix
returns-in-Prefix c = first_of (grind arith, search rules)
