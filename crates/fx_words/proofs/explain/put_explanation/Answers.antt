use Rattle.std.proofs.Common.{arith, rules}
use Rattle.fx_words.proofs.explain.put_explanation.Goals as goal

pub returns-in-None-clause-known : goal.returns-in-None-clause-known
returns-in-None-clause-known g c = first_of (grind arith, search rules)
