use Rattle.std.proofs.Common.{arith, rules}
use Rattle.fx_elements.proofs.values.read_written.Goals as goal

pub returns-then-is_wide-clause-value : goal.returns-then-is_wide-clause-value
returns-then-is_wide-clause-value c = first_of (grind arith, search rules)
