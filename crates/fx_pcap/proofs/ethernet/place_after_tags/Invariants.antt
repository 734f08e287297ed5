use Rattle.std.proofs.Common.{◌≡◌, ◌-◌, ◌≤◌, length, drop}
use Rattle.fx_pcap.specs.Frames.{after_tags}
use Rattle.fx_pcap.proofs.ethernet.place_after_tags.Given as goal

abbrev pub invariant-loop-at : goal.invariant-loop-at
invariant-loop-at l = record {
  within : l.at ≤ length l.octets;
  same : after_tags (drop l.at l.octets) ≡ after_tags (drop 12 l.octets);
}

abbrev pub decreases-loop-at : goal.decreases-loop-at
decreases-loop-at l = length l.octets - l.at
