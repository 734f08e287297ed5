use Rattle.std.proofs.Common.{arith, rules}
use Rattle.fx_link.proofs.opened.OpenedSinks.sink.Goals as goal

pub returns : goal.returns
returns g c = first_of (grind arith, search rules)
