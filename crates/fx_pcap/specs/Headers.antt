-- The extension headers of IPv6 (RFC 8200, section 4) and the protocol after them.
use Rattle.std.specs.Prelude.{◌≡◌, ℕ, zero, suc, ◌+◌, ◌-◌, ◌*◌, ◌/◌, Bool, ◌==◌, ◌||◌, ◌&&◌, nat_lt, if◌then◌else◌, List, [], ◌∷◌, length, drop, slice_index, Option, Some, None}
use Rattle.fx_pcap.specs.declared.transport.TransportHeader.{TransportHeader}
use Rattle.fx_pcap.specs.Numbers.{network}
use Rattle.fx_pcap.specs.Ip.{begins_with_ports}

-- ---- one header, by its type, which the preceding header names

-- the fragment header (section 4.5)
abbrev pub is_fragment : ℕ → Bool
is_fragment type = type == 44

-- hop-by-hop options, routing, fragment and destination options (sections 4.3 to 4.6); any other type counts as a
-- protocol,
-- including that of an authentication header (51)
abbrev pub is_extension : ℕ → Bool
is_extension type = is_fragment type || (type == 0 || (type == 43 || type == 60))

-- the type of the header after this one
abbrev pub next_header : List ℕ → ℕ
next_header octets = slice_index octets 0

-- the number of octets of the header: its second octet counts units of eight octets, not including the first unit
abbrev pub header_length : ℕ → List ℕ → ℕ
header_length type octets = if is_fragment type then 8 else 8 * (slice_index octets 1 + 1)

-- the number of octets of the header that are read; the others are passed over
abbrev pub octets_read : ℕ → ℕ
octets_read type = if is_fragment type then 4 else 2

-- the offset of a fragment in its packet, in units of eight octets: the upper 13 of 16 bits
abbrev pub fragment_offset : List ℕ → ℕ
fragment_offset octets = network 2 2 octets / 8

abbrev pub is_later_fragment : ℕ → List ℕ → Bool
is_later_fragment type octets = is_fragment type && nat_lt 0 (fragment_offset octets)

-- ---- the protocol and its ports; none if the octets end before them

abbrev pub without_ports : ℕ → TransportHeader
without_ports protocol = record { protocol = protocol; source_port = 0; destination_port = 0 }

-- the transport header in the protocol's own octets
abbrev pub transport_in : ℕ → List ℕ → Option TransportHeader
transport_in protocol octets =
    if begins_with_ports protocol then (
    if nat_lt (length octets) 4 then None
    else Some (record { protocol = protocol; source_port = network 2 0 octets; destination_port = network 2 2 octets }))
    else Some (without_ports protocol)

-- the transport header of octets that begin with a header of this type, given the result for the next header
abbrev pub with_header : ℕ → List ℕ → Option TransportHeader → Option TransportHeader
with_header type octets next =
    if is_extension type then (
    if nat_lt (length octets) (octets_read type) then None
    else (if is_later_fragment type octets then Some (without_ports (next_header octets)) else next))
    else transport_in type octets

-- the transport header of octets of which the first `n` belong to the preceding header
abbrev pub transport_behind : ℕ → ℕ → List ℕ → Option TransportHeader
transport_behind n type [] = with_header type [] None
transport_behind (suc n) type (o ∷ octets) = transport_behind n type octets
transport_behind zero type (o ∷ octets) =
    with_header type (o ∷ octets) (transport_behind (header_length type (o ∷ octets) - 1) o octets)

abbrev pub transport_of : ℕ → List ℕ → Option TransportHeader
transport_of type octets = transport_behind 0 type octets

-- ---- the same, stated header by header

-- the result is that of this header, or that of the next header in the octets after this one
abbrev pub IsHeaderByHeader : ℕ → List ℕ → Type 0
IsHeaderByHeader type octets = transport_of type octets
    ≡ with_header type octets (transport_of (next_header octets) (drop (header_length type octets) octets))
