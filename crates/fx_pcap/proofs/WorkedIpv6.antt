-- Worked examples of IPv6: a packet of UDP behind an extension header of each type, a later fragment, a payload that is
-- too short, and a jumbogram.
use Rattle.std.proofs.Common.{◌≡◌, ℕ, ◌+◌, ◌*◌, ◌^◌, List, [], ◌∷◌, ◌++◌, refl}
use Rattle.fx_pcap.specs.declared.content.Content.TheVariants.{Packet, Malformed}
use Rattle.fx_pcap.specs.declared.content.LinkType.TheVariants.{Ip}
use Rattle.fx_pcap.specs.Frames.{content_of}

-- of prefix 2001:db8::/32
pub address : ℕ → List ℕ
address n = 32 ∷ 1 ∷ 13 ∷ 184 ∷ 0 ∷ 0 ∷ 0 ∷ 0 ∷ 0 ∷ 0 ∷ 0 ∷ 0 ∷ 0 ∷ 0 ∷ 0 ∷ n ∷ []

-- traffic class 0xb8, a payload of so many octets, and a next header
pub fixed : ℕ → ℕ → List ℕ
fixed length next = 107 ∷ 128 ∷ 0 ∷ 0 ∷ 0 ∷ length ∷ next ∷ 64 ∷ address 1 ++ address 2

abbrev pub from : ℕ
from = 0x20010db8 * 2 ^ 96 + 1

abbrev pub to : ℕ
to = from + 1

-- hop-by-hop options or a routing header of 8 octets
pub short : ℕ → List ℕ
short next = next ∷ 0 ∷ 1 ∷ 4 ∷ 0 ∷ 0 ∷ 0 ∷ 0 ∷ []

-- destination options of 16 octets
pub options : ℕ → List ℕ
options next = next ∷ 1 ∷ 1 ∷ 12 ∷ 0 ∷ 0 ∷ 0 ∷ 0 ∷ 0 ∷ 0 ∷ 0 ∷ 0 ∷ 0 ∷ 0 ∷ 0 ∷ 0 ∷ []

pub fragment : ℕ → ℕ → List ℕ
fragment next octet = next ∷ 0 ∷ 0 ∷ octet ∷ 0 ∷ 0 ∷ 0 ∷ 1 ∷ []

pub udp : List ℕ
udp = 0 ∷ 53 ∷ 3 ∷ 232 ∷ 0 ∷ 8 ∷ 0 ∷ 0 ∷ []

-- the low three bits of a fragment's fourth octet are no part of its offset
pub first_fragment : content_of Ip (fixed 48 0 ++ short 43 ++ short 60 ++ options 44 ++ fragment 17 1 ++ udp)
    ≡ Packet (0 ∷ 0 ∷ 17 ∷ 53 ∷ 1000 ∷ 184 ∷ 6 ∷ from ∷ to ∷ []) 88
unfolding fixed address short options fragment udp
first_fragment = refl

pub later_fragment : content_of Ip (fixed 32 60 ++ options 44 ++ fragment 17 8 ++ udp)
    ≡ Packet (0 ∷ 0 ∷ 17 ∷ 0 ∷ 0 ∷ 184 ∷ 6 ∷ from ∷ to ∷ []) 72
unfolding fixed address options fragment udp
later_fragment = refl

-- ports past the payload length aren't there
pub short_payload : content_of Ip (fixed 27 60 ++ options 44 ++ fragment 17 1 ++ udp) ≡ Malformed
unfolding fixed address options fragment udp
short_payload = refl

pub jumbogram : content_of Ip (fixed 0 0 ++ options 17 ++ udp) ≡ Malformed
unfolding fixed address options udp
jumbogram = refl
