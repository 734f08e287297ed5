use Rattle.std.proofs.Common.{arith, rules}
use Rattle.fx_wire.proofs.set.read_set.Goals as goal

pub returns-then-is_reserved_id : goal.returns-then-is_reserved_id
returns-then-is_reserved_id c = first_of (grind arith, search rules)
