use Rattle.std.proofs.Common.{arith, rules}
use Rattle.fx_machine.proofs.records.Records.take_out.Goals as goal

pub returns-then-number-len : goal.returns-then-number-len
returns-then-number-len c = first_of (grind arith, search rules)
