use Rattle.fx_pcap.proofs.RecordsByCases.{by_cases}
use Rattle.fx_pcap.proofs.laws.records_by_cases.Goals as goal

pub returns : goal.returns
returns c = by_cases
