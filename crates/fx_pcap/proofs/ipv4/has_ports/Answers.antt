use Rattle.std.proofs.Common.{arith, rules}
use Rattle.fx_pcap.proofs.ipv4.has_ports.Goals as goal

pub returns-then-begins_with_ports : goal.returns-then-begins_with_ports
returns-then-begins_with_ports c = first_of (grind arith, search rules)
