use Rattle.std.proofs.Common.{arith, rules}
use Rattle.fx_elements.proofs.element.by_later_name.Goals as goal

pub returns-in-sourceIPv6Address : goal.returns-in-sourceIPv6Address
returns-in-sourceIPv6Address c = first_of (grind arith, search rules)
