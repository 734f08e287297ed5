use Rattle.std.proofs.Common.{arith, rules}
use Rattle.fx_machine.proofs.intake.Intake.key.Goals as goal

pub returns-in-Met : goal.returns-in-Met
returns-in-Met c = first_of (grind arith, search rules)
