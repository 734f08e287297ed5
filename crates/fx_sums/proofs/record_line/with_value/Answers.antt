use Rattle.std.proofs.Common.{arith, rules}
use Rattle.fx_sums.proofs.record_line.with_value.Goals as goal

pub of-requires : goal.of-requires
of-requires c = first_of (grind arith, search rules)
