use Rattle.std.proofs.Common.{arith, rules}
use Rattle.fx_parts.proofs.classes.same_packets.Goals as goal

pub returns-then-same_region-clause-exempt : goal.returns-then-same_region-clause-exempt
returns-then-same_region-clause-exempt c = first_of (grind arith, search rules)
