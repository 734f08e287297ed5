use Rattle.std.proofs.Common.{arith, rules}
use Rattle.fx_pcap.proofs.extension.header_length.Goals as goal

pub returns-else-header-eq-FRAGMENT : goal.returns-else-header-eq-FRAGMENT
returns-else-header-eq-FRAGMENT c = first_of (grind arith, search rules)
