use Rattle.std.proofs.Common.{arith, rules}
use Rattle.fx_pcap.proofs.transport.read_transport.Goals as goal

pub network16-requires : goal.network16-requires
network16-requires c = first_of (grind arith, search rules)

pub returns : goal.returns
returns c = first_of (grind arith, search rules)
