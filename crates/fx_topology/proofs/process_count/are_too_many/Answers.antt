use Rattle.std.proofs.Common.{arith, rules}
use Rattle.fx_topology.proofs.process_count.are_too_many.Goals as goal

pub loop-device-init : goal.loop-device-init
loop-device-init c = first_of (grind arith, search rules)

pub overflow_sub-room : goal.overflow_sub-room
overflow_sub-room c = first_of (grind arith, search rules)
