use Rattle.std.proofs.Common.{arith, rules}
use Rattle.fx_elements.proofs.values.read_value.Goals as goal

pub addresses-requires-clause-fewer : goal.addresses-requires-clause-fewer
addresses-requires-clause-fewer c = first_of (grind arith, search rules)

pub returns-in_ok-address-in-Prefix : goal.returns-in_ok-address-in-Prefix
returns-in_ok-address-in-Prefix c = first_of (grind arith, search rules)
