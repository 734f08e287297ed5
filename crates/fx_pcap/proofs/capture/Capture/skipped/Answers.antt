use Rattle.std.proofs.Common.{arith, rules}
use Rattle.fx_pcap.proofs.capture.Capture.skipped.Goals as goal

pub returns : goal.returns
returns g c = first_of (grind arith, search rules)
