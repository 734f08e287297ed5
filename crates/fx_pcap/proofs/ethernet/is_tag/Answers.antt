use Rattle.std.proofs.Common.{arith, rules}
use Rattle.fx_pcap.proofs.ethernet.is_tag.Goals as goal

pub returns-else-ether_type-eq33024 : goal.returns-else-ether_type-eq33024
returns-else-ether_type-eq33024 c = first_of (grind arith, search rules)
