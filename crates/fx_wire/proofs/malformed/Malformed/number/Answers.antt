use Rattle.std.proofs.Common.{arith, rules}
use Rattle.fx_wire.proofs.malformed.Malformed.number.Goals as goal

pub returns-in-SetLength : goal.returns-in-SetLength
returns-in-SetLength c = first_of (grind arith, search rules)
