use Rattle.fx_pcap.proofs.HeaderByHeader.{one_by_one}
use Rattle.fx_pcap.proofs.laws.headers_one_by_one.Goals as goal

pub returns : goal.returns
returns c = one_by_one
