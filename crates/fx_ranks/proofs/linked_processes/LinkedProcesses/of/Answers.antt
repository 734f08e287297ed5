use Rattle.std.proofs.Common.{arith, rules}
use Rattle.fx_ranks.proofs.linked_processes.LinkedProcesses.of.Goals as goal

pub invariant_of-result : goal.invariant_of-result
invariant_of-result c = first_of (grind arith, search rules)
