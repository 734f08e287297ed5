use Rattle.std.proofs.Common.{arith, rules}
use Rattle.fx_checker.proofs.ending.finish.Goals as goal

pub returns-after-put_refusal-clause-refused : goal.returns-after-put_refusal-clause-refused
returns-after-put_refusal-clause-refused g c = first_of (grind arith, search rules)
