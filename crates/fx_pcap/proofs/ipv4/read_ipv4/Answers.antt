use Rattle.std.proofs.Common.{◌≡◌, ℕ, ◌+◌, ◌*◌, ap, sym, ◌∙◌, arith}
use Rattle.fx_pcap.specs.declared.content.Content.TheVariants.{Packet}
use Rattle.fx_pcap.specs.Numbers.{network}
use Rattle.fx_pcap.specs.Ipv4.{fields_with, header_length}
use Rattle.fx_pcap.proofs.Ipv4Packets.{header_long, no_header, no_room, with_ports, without_ports}
use Rattle.fx_pcap.proofs.ipv4.read_ipv4.Goals as goal

pub returns-then-not-is_header : goal.returns-then-not-is_header
returns-then-not-is_header c = sym (no_header c.args.octets.now (sym c.is_header.ensures ∙ c.if-not-is_header.true))

pub network16-total-requires : goal.network16-total-requires
network16-total-requires c = omega (
  arith,
  header_long c.args.octets.now
      (sym c.is_header.ensures ∙ c.if-not-is_header.false),
)

pub has_ports-requires : goal.has_ports-requires
has_ports-requires c = header_long c.args.octets.now (sym c.is_header.ensures ∙ c.if-not-is_header.false)

pub fields_with-requires : goal.fields_with-requires
fields_with-requires c = header_long c.args.octets.now (sym c.is_header.ensures ∙ c.if-not-is_header.false)

pub returns-then-not-has_ports : goal.returns-then-not-has_ports
returns-then-not-has_ports c =
    let octets = c.args.octets.now in
    (λ i. Packet (c.fields_with.ensures i) ((c.from.ensures ∙ c.network16-total.ensures) i))
    ∙ sym (without_ports octets (sym c.is_header.ensures ∙ c.if-not-is_header.false)
    (sym c.has_ports.ensures ∙ c.if-not-has_ports.true))

pub bounds-octets-0 : goal.bounds-octets-0
bounds-octets-0 c = omega (arith, header_long c.args.octets.now (sym c.is_header.ensures ∙ c.if-not-is_header.false))

pub returns-then-min-header : goal.returns-then-min-header
returns-then-min-header c =
    let octets = c.args.octets.now in
    let total = c.from-2.ensures ∙ c.network16-total.ensures in
    let header : c.from-header.result * 4 ≡ header_length octets = ap (λ (n : ℕ). n * 4) c.from-header.ensures in
    sym (no_room octets (sym c.is_header.ensures ∙ c.if-not-is_header.false)
    (sym c.has_ports.ensures ∙ c.if-not-has_ports.false)
    (omega (arith, total, header, c.min.ensures, c.if-min-header.true)))

pub network16-source_port-requires : goal.network16-source_port-requires
network16-source_port-requires c = omega (arith, c.min.ensures, c.if-min-header.false)

pub network16-destination_port-requires : goal.network16-destination_port-requires
network16-destination_port-requires c = omega (arith, c.min.ensures, c.if-min-header.false)

pub fields_with-requires-2 : goal.fields_with-requires-2
fields_with-requires-2 c = header_long c.args.octets.now (sym c.is_header.ensures ∙ c.if-not-is_header.false)

pub returns : goal.returns
returns c =
    let octets = c.args.octets.now in
    let total = c.from-2.ensures ∙ c.network16-total.ensures in
    let header : c.from-header.result * 4 ≡ header_length octets = ap (λ (n : ℕ). n * 4) c.from-header.ensures in
    let source : c.network16-source_port.result ≡ network 2 (header_length octets) octets =
    c.network16-source_port.ensures ∙ ap (λ (n : ℕ). network 2 n octets) header in
    let destination : c.network16-destination_port.result ≡ network 2 (header_length octets + 2) octets =
    c.network16-destination_port.ensures ∙ ap (λ (n : ℕ). network 2 (n + 2) octets) header in
    (λ i. Packet ((c.fields_with-2.ensures ∙ (λ j. fields_with octets (source j) (destination j))) i)
    ((c.from-3.ensures ∙ c.network16-total.ensures) i))
    ∙ sym (with_ports octets (sym c.is_header.ensures ∙ c.if-not-is_header.false)
    (sym c.has_ports.ensures ∙ c.if-not-has_ports.false)
    (omega (arith, total, header, c.min.ensures, c.if-min-header.false)))
