use Rattle.std.proofs.Common.{arith, rules}
use Rattle.fx_link.proofs.sinks.Sinks.new.Goals as goal

pub returns-clause-going : goal.returns-clause-going
returns-clause-going g c = first_of (grind arith, search rules)
