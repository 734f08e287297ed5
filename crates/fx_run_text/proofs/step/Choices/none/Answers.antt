use Rattle.std.proofs.Common.{arith, rules}
use Rattle.fx_run_text.proofs.step.Choices.none.Goals as goal

pub returns : goal.returns
returns c = first_of (grind arith, search rules)
