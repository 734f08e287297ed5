use Rattle.std.proofs.Common.{arith, rules}
use Rattle.fx_check.proofs.progress.Progress.step.Goals as goal

pub returns-in-Header-item-clause-after : goal.returns-in-Header-item-clause-after
returns-in-Header-item-clause-after c = first_of (grind arith, search rules)

pub returns-in-Ended-clause-after : goal.returns-in-Ended-clause-after
returns-in-Ended-clause-after c = first_of (grind arith, search rules)
