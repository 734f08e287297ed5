use Rattle.std.proofs.Common.{arith, rules}
use Rattle.fx_check.proofs.line_fault.LineFault.number.Goals as goal

pub returns-in-SplitDepth : goal.returns-in-SplitDepth
returns-in-SplitDepth c = first_of (grind arith, search rules)
