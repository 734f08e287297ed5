use Rattle.std.proofs.Common.{arith, rules}
use Rattle.fx_base.proofs.lines.LineReader.line.Goals as goal

pub returns-clause-ended : goal.returns-clause-ended
returns-clause-ended g c = first_of (grind arith, search rules)
