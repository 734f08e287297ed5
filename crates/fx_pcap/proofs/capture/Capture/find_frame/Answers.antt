use Rattle.std.proofs.Common.{arith, rules}
use Rattle.fx_pcap.proofs.capture.Capture.find_frame.Goals as goal

pub returns-in-End : goal.returns-in-End
returns-in-End g c = first_of (grind arith, search rules)
