use Rattle.std.proofs.Common.{arith, rules}
use Rattle.fx_session.proofs.places.is_sought.Goals as goal

pub returns-in_default-2 : goal.returns-in_default-2
returns-in_default-2 c = first_of (grind arith, search rules)
