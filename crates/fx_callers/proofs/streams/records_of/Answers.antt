use Rattle.std.proofs.Common.{arith, rules}
use Rattle.fx_callers.proofs.streams.records_of.Goals as goal

pub loop-record-init : goal.loop-record-init
loop-record-init c = first_of (grind arith, search rules)
