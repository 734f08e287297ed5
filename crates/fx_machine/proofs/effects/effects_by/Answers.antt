use Rattle.std.proofs.Common.{arith, rules}
use Rattle.fx_machine.proofs.effects.effects_by.Goals as goal

pub returns-clause-ok : goal.returns-clause-ok
returns-clause-ok c = first_of (grind arith, search rules)

pub returns-then-not-can_take_all-clause-err : goal.returns-then-not-can_take_all-clause-err
returns-then-not-can_take_all-clause-err c = first_of (grind arith, search rules)
