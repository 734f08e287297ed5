use Rattle.std.proofs.Common.{arith, rules}
use Rattle.fx_config.proofs.key_field.longest_prefix.Goals as goal

pub returns-in-Prefix : goal.returns-in-Prefix
returns-in-Prefix c = first_of (grind arith, search rules)
