use Rattle.std.proofs.Common.{arith, rules}
use Rattle.fx_traffic.proofs.class.exempt_member.Goals as goal

pub returns-then-is_empty_type : goal.returns-then-is_empty_type
returns-then-is_empty_type c = first_of (grind arith, search rules)
