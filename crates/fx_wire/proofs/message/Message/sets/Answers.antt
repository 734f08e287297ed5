use Rattle.std.proofs.Common.{arith, rules}
use Rattle.fx_wire.proofs.message.Message.sets.Goals as goal

pub new-requires : goal.new-requires
new-requires c = first_of (grind arith, search rules)
