use Rattle.std.proofs.Common.{arith, rules}
use Rattle.fx_sums.proofs.text_lines.missing_line.Goals as goal

pub returns : goal.returns
returns g c = first_of (grind arith, search rules)
