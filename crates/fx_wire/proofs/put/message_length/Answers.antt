use Rattle.std.proofs.Common.{arith, rules}
use Rattle.fx_wire.proofs.put.message_length.Goals as goal

pub loop-set-init : goal.loop-set-init
loop-set-init c = first_of (grind arith, search rules)
