use Rattle.std.proofs.Common.{arith, rules}
use Rattle.fx_session.proofs.stream_fault.StreamFault.number.Goals as goal

pub returns-in-CutRecord : goal.returns-in-CutRecord
returns-in-CutRecord c = first_of (grind arith, search rules)
