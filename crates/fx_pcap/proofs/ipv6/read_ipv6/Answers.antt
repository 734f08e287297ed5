use Rattle.std.proofs.Common.{arith, rules}
use Rattle.fx_pcap.proofs.ipv6.read_ipv6.Goals as goal

pub returns-in-None : goal.returns-in-None
returns-in-None c = first_of (grind arith, search rules)

pub returns-in-Some : goal.returns-in-Some
returns-in-Some c = first_of (grind arith, search rules)
