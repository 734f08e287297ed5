use Rattle.std.proofs.Common.{arith, rules}
use Rattle.fx_session.proofs.template_set.is_narrow.Goals as goal

pub returns-then-is_counter : goal.returns-then-is_counter
returns-then-is_counter c = first_of (grind arith, search rules)
