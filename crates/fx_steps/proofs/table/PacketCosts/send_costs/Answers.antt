use Rattle.std.proofs.Common.{arith, rules}
use Rattle.fx_steps.proofs.table.PacketCosts.send_costs.Goals as goal

pub returns-else-parallel : goal.returns-else-parallel
returns-else-parallel c = first_of (grind arith, search rules)
