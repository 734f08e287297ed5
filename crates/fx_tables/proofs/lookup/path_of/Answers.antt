use Rattle.std.proofs.Common.{arith, rules}
use Rattle.fx_tables.proofs.lookup.path_of.Goals as goal

pub returns-in-Some-entry_numbered : goal.returns-in-Some-entry_numbered
returns-in-Some-entry_numbered c = first_of (grind arith, search rules)
