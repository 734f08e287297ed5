use Rattle.std.proofs.Common.{◌≡◌, false, sym, ap, ◌∙◌, arith}
use Rattle.std.proofs.lemmas.List.{take_rest}
use Rattle.fx_pcap.specs.Numbers.{network}
use Rattle.fx_pcap.specs.Frames.{is_tag}
use Rattle.fx_pcap.specs.Ipv4.{ipv4}
use Rattle.fx_pcap.specs.Ipv6.{ipv6}
use Rattle.fx_pcap.proofs.Typed.{typed_as}
use Rattle.fx_pcap.proofs.ethernet.read_typed.Goals as goal

pub returns-in-2048 : goal.returns-in-2048
returns-in-2048 c =
    let octets = c.args.octets.now in
    let tag : is_tag (network 2 0 octets) ≡ false = ap is_tag (sym c.network16-ether_type.ensures)
    ∙ sym c.is_tag.ensures ∙ c.if-is_tag.false in
    c.read_ipv4.ensures ∙ ap ipv4 (take_rest octets 2)
    ∙ sym (typed_as 2048 octets (omega arith) tag (sym c.network16-ether_type.ensures ∙ c.in-2048.is))

pub returns-in-34525 : goal.returns-in-34525
returns-in-34525 c =
    let octets = c.args.octets.now in
    let tag : is_tag (network 2 0 octets) ≡ false = ap is_tag (sym c.network16-ether_type.ensures)
    ∙ sym c.is_tag.ensures ∙ c.if-is_tag.false in
    c.read_ipv6.ensures ∙ ap ipv6 (take_rest octets 2)
    ∙ sym (typed_as 34525 octets (omega arith) tag (sym c.network16-ether_type.ensures ∙ c.in-34525.is))
