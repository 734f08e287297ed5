use Rattle.std.proofs.Common.{arith, rules}
use Rattle.fx_pcap.proofs.capture.Capture.next_packet.Goals as goal

pub returns-then-not-branch : goal.returns-then-not-branch
returns-then-not-branch g c = first_of (grind arith, search rules)

pub returns : goal.returns
returns g c = first_of (grind arith, search rules)
