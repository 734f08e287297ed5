use Rattle.std.proofs.Common.{arith, rules}
use Rattle.fx_check.proofs.progress.split_waiting.Goals as goal

pub returns-then-not-can_split-clause-answer : goal.returns-then-not-can_split-clause-answer
returns-then-not-can_split-clause-answer c = first_of (grind arith, search rules)

pub returns-clause-above : goal.returns-clause-above
returns-clause-above c = first_of (grind arith, search rules)

pub returns-clause-below : goal.returns-clause-below
returns-clause-below c = first_of (grind arith, search rules)
