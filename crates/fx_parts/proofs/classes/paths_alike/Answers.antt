use Rattle.std.proofs.Common.{arith, rules}
use Rattle.fx_parts.proofs.classes.paths_alike.Goals as goal

pub loop-index-init : goal.loop-index-init
loop-index-init c = first_of (grind arith, search rules)
