use Rattle.std.proofs.Common.{arith, rules}
use Rattle.fx_cli.proofs.drawing.draw.Goals as goal

pub returns-in-Ok : goal.returns-in-Ok
returns-in-Ok g c = first_of (grind arith, search rules)
