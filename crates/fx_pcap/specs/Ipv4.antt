-- IPv4 packets (RFC 791, section 3.1).
use Rattle.std.specs.Prelude.{ℕ, ◌+◌, ◌*◌, ◌%◌, ◌^◌, Bool, ◌==◌, ◌&&◌, nat_le, if◌then◌else◌, List, [], ◌∷◌, length, take, slice_index}
use Rattle.fx_pcap.specs.declared.content.Content.{Content}
use Rattle.fx_pcap.specs.declared.content.Content.TheVariants.{Packet, Malformed}
use Rattle.fx_pcap.specs.Numbers.{network}
use Rattle.fx_pcap.specs.Ip.{version, begins_with_ports}

-- the header counts its length in words of four octets
abbrev pub header_length : List ℕ → ℕ
header_length octets = slice_index octets 0 % 16 * 4

abbrev pub total_length : List ℕ → ℕ
total_length octets = network 2 2 octets

-- the offset of a fragment in its datagram, in units of eight octets
abbrev pub fragment_offset : List ℕ → ℕ
fragment_offset octets = network 2 6 octets % 2 ^ 13

abbrev pub protocol : List ℕ → ℕ
protocol octets = slice_index octets 9

-- the fixed header is complete, has version 4, and its length is at least 20 and at most the total length
abbrev pub is_header : List ℕ → Bool
is_header octets =
    nat_le 20 (length octets) && (version octets == 4 &&
    (nat_le 20 (header_length octets) && nat_le (header_length octets) (total_length octets)))

-- only the first fragment of a datagram has ports
abbrev pub has_ports : List ℕ → Bool
has_ports octets = begins_with_ports (protocol octets) && fragment_offset octets == 0

-- the number of captured octets of the packet; octets past the total length aren't part of it
abbrev pub packet_length : List ℕ → ℕ
packet_length octets = length (take (total_length octets) octets)

-- the packet's values on the axes, in order, with these ports; an IPv4 packet has no IPv6 address
abbrev pub fields_with : List ℕ → ℕ → ℕ → List ℕ
fields_with octets source_port destination_port =
    network 4 12 octets ∷ network 4 16 octets ∷ protocol octets ∷ source_port ∷ destination_port ∷ slice_index octets 1
    ∷ 4 ∷ 0 ∷ 0 ∷ []

abbrev pub ipv4 : List ℕ → Content
ipv4 octets =
    if is_header octets then (
    if has_ports octets then (
    if nat_le (header_length octets + 4) (packet_length octets)
    then Packet (fields_with octets (network 2 (header_length octets) octets)
    (network 2 (header_length octets + 2) octets)) (total_length octets)
    else Malformed)
    else Packet (fields_with octets 0 0) (total_length octets))
    else Malformed
