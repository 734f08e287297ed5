use Rattle.std.proofs.Common.{arith, rules}
use Rattle.fx_cli.proofs.running.answer_input.Goals as goal

pub returns-clause-answers : goal.returns-clause-answers
returns-clause-answers g c = first_of (grind arith, search rules)
