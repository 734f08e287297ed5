use Rattle.std.proofs.Common.{arith, rules}
use Rattle.fx_link.proofs.opened.OpenedSinks.append.Goals as goal

pub returns-in-Some-clause-ok : goal.returns-in-Some-clause-ok
returns-in-Some-clause-ok g c = first_of (grind arith, search rules)
