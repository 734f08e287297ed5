use Rattle.std.proofs.Common.{arith, rules}
use Rattle.fx_cli.proofs.explaining.explain_bytes.Goals as goal

pub returns-then-eq-clause-answers : goal.returns-then-eq-clause-answers
returns-then-eq-clause-answers g c = first_of (grind arith, search rules)
