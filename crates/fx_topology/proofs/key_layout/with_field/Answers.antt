use Rattle.std.proofs.Common.{arith, rules}
use Rattle.fx_topology.proofs.key_layout.with_field.Goals as goal

pub returns : goal.returns
returns c = first_of (grind arith, search rules)
