-- IPv6 packets (RFC 8200, section 3).
use Rattle.std.specs.Prelude.{ℕ, ◌+◌, ◌/◌, ◌%◌, ◌^◌, Bool, ◌==◌, ◌&&◌, nat_le, if◌then◌else◌, List, [], ◌∷◌, length, take, drop, slice_index, Option, Some, None}
use Rattle.fx_pcap.specs.declared.content.Content.{Content}
use Rattle.fx_pcap.specs.declared.content.Content.TheVariants.{Packet, Malformed}
use Rattle.fx_pcap.specs.declared.transport.TransportHeader.{TransportHeader}
use Rattle.fx_pcap.specs.Numbers.{network}
use Rattle.fx_pcap.specs.Ip.{version}
use Rattle.fx_pcap.specs.Headers.{transport_of}

-- the eight bits after the version
abbrev pub traffic_class : List ℕ → ℕ
traffic_class octets = network 2 0 octets / 2 ^ 4 % 2 ^ 8

abbrev pub payload_length : List ℕ → ℕ
payload_length octets = network 2 4 octets

-- the type of the header after the fixed header
abbrev pub next_header : List ℕ → ℕ
next_header octets = slice_index octets 6

-- the fixed header is complete and has version 6
abbrev pub is_header : List ℕ → Bool
is_header octets = nat_le 40 (length octets) && version octets == 6

-- extension headers and what follows them; octets past the payload length aren't part of the packet. A jumbogram
-- (RFC 2675) has payload length 0, so its payload is empty here, without its hop-by-hop header
abbrev pub payload : List ℕ → List ℕ
payload octets = take (payload_length octets) (drop 40 octets)

-- the packet's values on the axes, in order; an IPv6 packet has no IPv4 address
abbrev pub fields_with : List ℕ → TransportHeader → List ℕ
fields_with octets t =
    0 ∷ 0 ∷ t.protocol ∷ t.source_port ∷ t.destination_port ∷ traffic_class octets ∷ 6 ∷ network 16 8 octets
    ∷ network 16 24 octets ∷ []

abbrev pub with_transport : List ℕ → Option TransportHeader → Content
with_transport octets None = Malformed
with_transport octets (Some t) = Packet (fields_with octets t) (40 + payload_length octets)

abbrev pub ipv6 : List ℕ → Content
ipv6 octets =
    if is_header octets then with_transport octets (transport_of (next_header octets) (payload octets)) else Malformed
