-- What an EtherType names.
use Rattle.std.proofs.Common.{◌≡◌, ℕ, ◌≤◌, false, ◌||◌, nat_lt, List, length, drop, if◌then◌else◌}
use Rattle.std.proofs.lemmas.Bool.{le-ltb}
use Rattle.fx_pcap.specs.declared.content.Content.TheVariants.{Malformed}
use Rattle.fx_pcap.specs.Numbers.{network}
use Rattle.fx_pcap.specs.Frames.{is_tag, behind_type, content_by_type}

pub typed_as : (type : ℕ) (octets : List ℕ) → 2 ≤ length octets → is_tag (network 2 0 octets) ≡ false
    → network 2 0 octets ≡ type → content_by_type octets ≡ behind_type type (drop 2 octets)
typed_as type octets long tag is =
    let there : nat_lt (length octets) 2 ≡ false = le-ltb _ _ long in
    λ i. if there i || tag i then Malformed else behind_type (is i) (drop 2 octets)
