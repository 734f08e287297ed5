use Rattle.std.proofs.Common.{arith, rules}
use Rattle.fx_session.proofs.flow.noted_part.Goals as goal

pub returns-then-is_address-clause-part : goal.returns-then-is_address-clause-part
returns-then-is_address-clause-part c = first_of (grind arith, search rules)
