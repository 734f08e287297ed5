use Rattle.std.proofs.Common.{◌≡◌, ◌-◌, length, take, drop, ◌∙◌, min}
use Rattle.std.proofs.lemmas.List.{take_min, take_rest}
use Rattle.fx_pcap.specs.Ipv6.{payload_length}
use Rattle.fx_pcap.proofs.ipv6.payload.Goals as goal

pub returns : goal.returns
returns c =
    let octets = c.args.octets.now in
    let behind : take (length octets - 40) (drop 40 octets) ≡ drop 40 octets = take_rest octets 40 in
    let read : c.from.result ≡ payload_length octets = c.from.ensures ∙ c.network16.ensures in
    let size : c.min.result ≡ min (payload_length octets) (length (drop 40 octets)) = c.min.ensures
    ∙ (λ i. min (read i) (length (behind i))) in
    (λ i. take (size i) (behind i)) ∙ take_min (payload_length octets) (drop 40 octets)
