use Rattle.std.proofs.Common.{arith, rules}
use Rattle.fx_audit.proofs.bundle.command_of.Goals as goal

pub returns-in-Some-strip_prefix-2-clause-some : goal.returns-in-Some-strip_prefix-2-clause-some
returns-in-Some-strip_prefix-2-clause-some c = first_of (grind arith, search rules)

pub returns-clause-some : goal.returns-clause-some
returns-clause-some c = first_of (grind arith, search rules)

pub returns-in-Some-strip_prefix-clause-some : goal.returns-in-Some-strip_prefix-clause-some
returns-in-Some-strip_prefix-clause-some c = first_of (grind arith, search rules)
