use Rattle.std.proofs.Common.{arith, rules}
use Rattle.fx_wire.proofs.template.declaration.Goals as goal

pub returns-then-scope-eq0 : goal.returns-then-scope-eq0
returns-then-scope-eq0 c = first_of (grind arith, search rules)
