-- What captured octets say about their packet: Ethernet with tags (IEEE 802.1Q and 802.1ad), or an IP packet itself.
use Rattle.std.specs.Prelude.{ℕ, Bool, ◌==◌, ◌||◌, nat_lt, if◌then◌else◌, List, [], ◌∷◌, length, drop}
use Rattle.fx_pcap.specs.declared.content.Content.{Content}
use Rattle.fx_pcap.specs.declared.content.Content.TheVariants.{Other, Malformed}
use Rattle.fx_pcap.specs.declared.content.LinkType.{LinkType}
use Rattle.fx_pcap.specs.declared.content.LinkType.TheVariants.{Ethernet, Ip}
use Rattle.fx_pcap.specs.Numbers.{network}
use Rattle.fx_pcap.specs.Ip.{version}
use Rattle.fx_pcap.specs.Ipv4.{ipv4}
use Rattle.fx_pcap.specs.Ipv6.{ipv6}

-- ---- Ethernet

abbrev pub is_tag : ℕ → Bool
is_tag type = type == 0x8100 || type == 0x88a8

-- the octets from the packet's EtherType on, after any number of tags of four octets
abbrev pub after_tags : List ℕ → List ℕ
after_tags (a ∷ b ∷ c ∷ d ∷ octets) = if is_tag (network 2 0 (a ∷ b ∷ c ∷ d ∷ octets)) then after_tags octets else a ∷ b
    ∷ c ∷ d ∷ octets
after_tags octets = octets

-- the content of the octets after this EtherType
abbrev pub behind_type : ℕ → List ℕ → Content
behind_type type octets = if type == 0x0800 then ipv4 octets else (if type == 0x86dd then ipv6 octets else Other)

-- the content of an EtherType and the octets after it; a tag here is cut off
abbrev pub content_by_type : List ℕ → Content
content_by_type octets =
    if nat_lt (length octets) 2 || is_tag (network 2 0 octets) then Malformed
    else behind_type (network 2 0 octets) (drop 2 octets)

-- ---- link types

-- the content of a packet of this IP version
abbrev pub of_version : ℕ → List ℕ → Content
of_version number octets = if number == 4 then ipv4 octets else (if number == 6 then ipv6 octets else Other)

-- two addresses, then tags and a packet (Ethernet); or the packet itself, whose first octet gives its version (IP)
abbrev pub content_of : LinkType → List ℕ → Content
content_of Ethernet octets = content_by_type (after_tags (drop 12 octets))
content_of Ip [] = Malformed
content_of Ip (o ∷ octets) = of_version (version (o ∷ octets)) (o ∷ octets)
