use Rattle.std.proofs.Common.{arith, rules}
use Rattle.fx_pcap.proofs.capture.Capture.frame.Goals as goal

pub returns-clause-second : goal.returns-clause-second
returns-clause-second g c = first_of (grind arith, search rules)
