-- Packets of IPv4 by what is reported of their headers.
use Rattle.std.proofs.Common.{◌≡◌, ℕ, ◌+◌, ◌<◌, ◌≤◌, Bool, true, false, List, length, min, inl, inr, refl, ap, arith, if◌then◌else◌, ◌&&◌, ◌==◌}
use Rattle.std.specs.Prelude.{nat_le}
use Rattle.std.proofs.lemmas.Bool.{le-leb, leb-true}
use Rattle.std.proofs.lemmas.Bool.Decides.{leb_tells}
use Rattle.std.proofs.lemmas.List.{length-take}
use Rattle.fx_pcap.specs.declared.content.Content.{Content}
use Rattle.fx_pcap.specs.declared.content.Content.TheVariants.{Packet, Malformed}
use Rattle.fx_pcap.specs.Numbers.{network}
use Rattle.fx_pcap.specs.Ip.{version}
use Rattle.fx_pcap.specs.Ipv4.{fields_with, has_ports, header_length, ipv4, is_header, packet_length, total_length}

-- by whether the header can be one, has ports behind it, and has room for them
abbrev by_tests : List ℕ → Bool → Bool → Bool → Content
by_tests octets header ports room =
    if header then (
    if ports then (
    if room
    then Packet (fields_with octets (network 2 (header_length octets) octets)
    (network 2 (header_length octets + 2) octets)) (total_length octets)
    else Malformed)
    else Packet (fields_with octets 0 0) (total_length octets))
    else Malformed

room_in : List ℕ → Bool
room_in octets = nat_le (header_length octets + 4) (packet_length octets)

pub header_long : (octets : List ℕ) → is_header octets ≡ true → 20 ≤ length octets
header_long octets e =
    leb-true 20 (length octets) (first (nat_le 20 (length octets))
    (version octets == 4 && (nat_le 20 (header_length octets) && nat_le (header_length octets)
    (total_length octets))) e)
  where
    first : (a b : Bool) → (a && b) ≡ true → a ≡ true
    first true b e = refl
    first false b e = absurd (cc)

pub no_header : (octets : List ℕ) → is_header octets ≡ false → ipv4 octets ≡ Malformed
unfolding room_in
no_header octets e = ap (λ (t : Bool). by_tests octets t (has_ports octets) (room_in octets)) e

pub without_ports : (octets : List ℕ) → is_header octets ≡ true → has_ports octets ≡ false → ipv4 octets
    ≡ Packet (fields_with octets 0 0) (total_length octets)
unfolding room_in
without_ports octets e f = λ i. by_tests octets (e i) (f i) (room_in octets)

pub no_room : (octets : List ℕ) → is_header octets ≡ true → has_ports octets ≡ true
    → min (total_length octets) (length octets) < header_length octets + 4 → ipv4 octets ≡ Malformed
unfolding room_in
no_room octets e f less = λ i. by_tests octets (e i) (f i) (room i)
  where
    room : room_in octets ≡ false
    room =
        elim (leb_tells (header_length octets + 4) (packet_length octets)) [
          | inl w ↦ absurd (omega (arith, w.1, less, length-take (total_length octets) octets))
          | inr w ↦ w.0
        ]

pub with_ports : (octets : List ℕ) → is_header octets ≡ true → has_ports octets ≡ true → header_length octets + 4
    ≤ min (total_length octets) (length octets)
    → ipv4 octets ≡ Packet (fields_with octets (network 2 (header_length octets) octets)
    (network 2 (header_length octets + 2) octets)) (total_length octets)
unfolding room_in
with_ports octets e f le = λ i. by_tests octets (e i) (f i) (room i)
  where
    room : room_in octets ≡ true
    room = le-leb (header_length octets + 4) (packet_length octets)
        (omega (arith, le, length-take (total_length octets) octets))
