use Rattle.std.proofs.Common.{arith, rules}
use Rattle.fx_elements.proofs.element.by_last_name.Goals as goal

pub returns-in-octetTotalCount : goal.returns-in-octetTotalCount
returns-in-octetTotalCount c = first_of (grind arith, search rules)

pub returns-in-destinationIPv6Prefix : goal.returns-in-destinationIPv6Prefix
returns-in-destinationIPv6Prefix c = first_of (grind arith, search rules)
