use Rattle.std.proofs.Common.{arith, rules}
use Rattle.fx_leaf.proofs.table.empty_rows.Goals as goal

pub loop-process-init : goal.loop-process-init
loop-process-init c = first_of (grind arith, search rules)
