use Rattle.std.proofs.Common.{arith, rules}
use Rattle.fx_pcap.proofs.transport.TransportHeader.without_ports.Goals as goal

pub returns : goal.returns
returns c = first_of (grind arith, search rules)
