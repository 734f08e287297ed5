use Rattle.std.proofs.Common.{◌≡◌, ◌-◌, ◌≤◌, length, drop}
use Rattle.fx_pcap.specs.Headers.{transport_of}
use Rattle.fx_pcap.proofs.extension.read_payload.Given as goal

abbrev pub invariant-headers : goal.invariant-headers
invariant-headers l = record {
  within : l.at ≤ length l.octets;
  same : transport_of l.header (drop l.at l.octets) ≡ transport_of l.first l.octets;
}

abbrev pub decreases-headers : goal.decreases-headers
decreases-headers l = length l.octets - l.at
