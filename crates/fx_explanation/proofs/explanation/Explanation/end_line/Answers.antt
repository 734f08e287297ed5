use Rattle.std.proofs.Common.{arith, rules}
use Rattle.fx_explanation.proofs.explanation.Explanation.end_line.Goals as goal

pub octet-requires : goal.octet-requires
octet-requires c = first_of (grind arith, search rules)
