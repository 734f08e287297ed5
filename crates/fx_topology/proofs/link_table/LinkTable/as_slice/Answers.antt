use Rattle.std.proofs.Common.{arith, rules}
use Rattle.fx_topology.proofs.link_table.LinkTable.as_slice.Goals as goal

pub returns : goal.returns
returns c = first_of (grind arith, search rules)
