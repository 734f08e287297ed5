use Rattle.std.proofs.Common.{arith, rules}
use Rattle.fx_pcap.proofs.extension.octets_read.Goals as goal

pub returns-then-header-eq-FRAGMENT : goal.returns-then-header-eq-FRAGMENT
returns-then-header-eq-FRAGMENT c = first_of (grind arith, search rules)
