use Rattle.std.proofs.Common.{arith, rules}
use Rattle.fx_cert.proofs.put.word.Goals as goal

pub returns-in-Source6 : goal.returns-in-Source6
returns-in-Source6 c = first_of (grind arith, search rules)
