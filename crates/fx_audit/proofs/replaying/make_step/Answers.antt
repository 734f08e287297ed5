use Rattle.std.proofs.Common.{arith, rules}
use Rattle.fx_audit.proofs.replaying.make_step.Goals as goal

pub returns-clause-refused : goal.returns-clause-refused
returns-clause-refused g c = first_of (grind arith, search rules)

pub returns-then-is_some-clause-before : goal.returns-then-is_some-clause-before
returns-then-is_some-clause-before g c = first_of (grind arith, search rules)

pub returns-in-Ok-clause-made : goal.returns-in-Ok-clause-made
returns-in-Ok-clause-made g c = first_of (grind arith, search rules)
