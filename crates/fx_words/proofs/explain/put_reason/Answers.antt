use Rattle.std.proofs.Common.{arith, rules}
use Rattle.fx_words.proofs.explain.put_reason.Goals as goal

pub returns-in-None : goal.returns-in-None
returns-in-None g c = first_of (grind arith, search rules)
