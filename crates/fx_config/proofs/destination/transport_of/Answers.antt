use Rattle.std.proofs.Common.{arith, rules}
use Rattle.fx_config.proofs.destination.transport_of.Goals as goal

pub returns-then-is_some-2 : goal.returns-then-is_some-2
returns-then-is_some-2 c = first_of (grind arith, search rules)
