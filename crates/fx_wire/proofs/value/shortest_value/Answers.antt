use Rattle.std.proofs.Common.{arith, rules}
use Rattle.fx_wire.proofs.value.shortest_value.Goals as goal

pub returns-then-field-clause-value : goal.returns-then-field-clause-value
returns-then-field-clause-value c = first_of (grind arith, search rules)
