use Rattle.std.proofs.Common.{arith, rules}
use Rattle.fx_walk.proofs.entries.name_member_by.Goals as goal

pub returns-in-Some-clause-names : goal.returns-in-Some-clause-names
returns-in-Some-clause-names c = first_of (grind arith, search rules)
