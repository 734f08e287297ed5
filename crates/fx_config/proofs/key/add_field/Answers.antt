use Rattle.std.proofs.Common.{arith, rules}
use Rattle.fx_config.proofs.key.add_field.Goals as goal

pub returns-in-None : goal.returns-in-None
returns-in-None c = first_of (grind arith, search rules)
