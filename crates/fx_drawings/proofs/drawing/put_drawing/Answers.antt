use Rattle.std.proofs.Common.{arith, rules}
use Rattle.fx_drawings.proofs.drawing.put_drawing.Goals as goal

pub returns-clause-ok : goal.returns-clause-ok
returns-clause-ok g c = first_of (grind arith, search rules)

pub returns-in_err-dot-clause-err : goal.returns-in_err-dot-clause-err
returns-in_err-dot-clause-err g c = first_of (grind arith, search rules)
