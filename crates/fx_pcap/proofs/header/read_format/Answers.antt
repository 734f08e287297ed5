use Rattle.std.proofs.Common.{arith, rules}
use Rattle.fx_pcap.proofs.header.read_format.Goals as goal

pub returns-in-Some-link_of : goal.returns-in-Some-link_of
returns-in-Some-link_of c = first_of (grind arith, search rules)

pub returns-in-None : goal.returns-in-None
returns-in-None c = first_of (grind arith, search rules)
