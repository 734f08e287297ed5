use Rattle.std.proofs.Common.{arith, rules}
use Rattle.fx_wire.proofs.value.cut_value.Goals as goal

pub returns-else-field_length-eq-VARIABLE : goal.returns-else-field_length-eq-VARIABLE
returns-else-field_length-eq-VARIABLE c = first_of (grind arith, search rules)
