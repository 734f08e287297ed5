use Rattle.std.proofs.Common.{arith, rules}
use Rattle.fx_base.proofs.lines.LineReader.next_line.Goals as goal

pub returns-then-not-branch : goal.returns-then-not-branch
returns-then-not-branch g c = first_of (grind arith, search rules)
