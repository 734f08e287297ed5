use Rattle.std.proofs.Common.{arith, rules}
use Rattle.fx_machine.proofs.records.Records.as_slice.Goals as goal

pub returns : goal.returns
returns c = first_of (grind arith, search rules)
