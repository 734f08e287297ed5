use Rattle.std.proofs.Common.{arith, rules}
use Rattle.fx_pcap.proofs.ipv4.is_header.Goals as goal

pub returns-then-header-ge-LEAST_HEADER : goal.returns-then-header-ge-LEAST_HEADER
returns-then-header-ge-LEAST_HEADER c = first_of (grind arith, search rules)
