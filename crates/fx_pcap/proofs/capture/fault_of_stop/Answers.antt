use Rattle.fx_pcap.specs.Captures.{cut_off, too_long}
use Rattle.fx_pcap.proofs.capture.fault_of_stop.Goals as goal

pub returns-in-Cut-clause-reported : goal.returns-in-Cut-clause-reported
returns-in-Cut-clause-reported c = cut_off c.args.place c.at_octet.ensures

pub returns-in-TooLong-clause-reported : goal.returns-in-TooLong-clause-reported
returns-in-TooLong-clause-reported c = too_long c.args.place c.at_octet-in-TooLong.ensures
