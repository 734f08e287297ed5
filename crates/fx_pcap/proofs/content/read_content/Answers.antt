use Rattle.std.proofs.Common.{arith, rules}
use Rattle.fx_pcap.proofs.content.read_content.Goals as goal

pub returns-in-empty : goal.returns-in-empty
returns-in-empty c = first_of (grind arith, search rules)

pub returns-in_default : goal.returns-in_default
returns-in_default c = first_of (grind arith, search rules)

pub returns-in-6 : goal.returns-in-6
returns-in-6 c = first_of (grind arith, search rules)
