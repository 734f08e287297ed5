-- A worked example: three packets on Ethernet, one behind a tag, one a later
-- fragment and one without ports, and a record that is cut.
use Rattle.std.proofs.Common.{◌≡◌, ℕ, List, [], ◌∷◌, drop, take, Some, Ok, refl}
use Rattle.fx_base.specs.declared.fault.Place.TheVariants as places
use Rattle.fx_base.specs.Fault.{fault_at}
use Rattle.fx_pcap.specs.declared.order.Order.TheVariants.{Little}
use Rattle.fx_pcap.specs.declared.content.LinkType.TheVariants.{Ethernet}
use Rattle.fx_pcap.specs.declared.header.Format.{Format}
use Rattle.fx_pcap.specs.declared.skipped.Skipped.{Skipped}
use Rattle.fx_pcap.specs.Records.{format_of, records_of}
use Rattle.fx_pcap.specs.Captures.{ahead_in}

pub capture : List ℕ
capture =
    77 ∷ 60 ∷ 178 ∷ 161 ∷ 2 ∷ 0 ∷ 4 ∷ 0 ∷ 0 ∷ 0 ∷ 0 ∷ 0 ∷ 0 ∷ 0 ∷ 0 ∷ 0 ∷
    0 ∷ 0 ∷ 4 ∷ 0 ∷ 1 ∷ 0 ∷ 0 ∷ 0 ∷ 1 ∷ 0 ∷ 0 ∷ 0 ∷ 0 ∷ 0 ∷ 0 ∷ 0 ∷
    42 ∷ 0 ∷ 0 ∷ 0 ∷ 58 ∷ 0 ∷ 0 ∷ 0 ∷ 0 ∷ 0 ∷ 0 ∷ 0 ∷ 0 ∷ 0 ∷ 0 ∷ 0 ∷
    0 ∷ 0 ∷ 0 ∷ 0 ∷ 129 ∷ 0 ∷ 0 ∷ 5 ∷ 8 ∷ 0 ∷ 69 ∷ 0 ∷ 0 ∷ 40 ∷ 0 ∷ 0 ∷
    0 ∷ 0 ∷ 64 ∷ 6 ∷ 0 ∷ 0 ∷ 10 ∷ 0 ∷ 0 ∷ 1 ∷ 192 ∷ 0 ∷ 2 ∷ 1 ∷ 3 ∷ 232 ∷
    1 ∷ 187 ∷ 2 ∷ 0 ∷ 0 ∷ 0 ∷ 0 ∷ 0 ∷ 0 ∷ 0 ∷ 34 ∷ 0 ∷ 0 ∷ 0 ∷ 22 ∷ 2 ∷
    0 ∷ 0 ∷ 0 ∷ 0 ∷ 0 ∷ 0 ∷ 0 ∷ 0 ∷ 0 ∷ 0 ∷ 0 ∷ 0 ∷ 0 ∷ 0 ∷ 8 ∷ 0 ∷
    69 ∷ 0 ∷ 2 ∷ 8 ∷ 0 ∷ 0 ∷ 0 ∷ 185 ∷ 64 ∷ 17 ∷ 0 ∷ 0 ∷ 10 ∷ 0 ∷ 0 ∷ 1 ∷
    192 ∷ 0 ∷ 2 ∷ 1 ∷ 3 ∷ 0 ∷ 0 ∷ 0 ∷ 0 ∷ 0 ∷ 0 ∷ 0 ∷ 34 ∷ 0 ∷ 0 ∷ 0 ∷
    98 ∷ 0 ∷ 0 ∷ 0 ∷ 0 ∷ 0 ∷ 0 ∷ 0 ∷ 0 ∷ 0 ∷ 0 ∷ 0 ∷ 0 ∷ 0 ∷ 0 ∷ 0 ∷
    8 ∷ 0 ∷ 69 ∷ 0 ∷ 0 ∷ 84 ∷ 0 ∷ 0 ∷ 0 ∷ 0 ∷ 64 ∷ 1 ∷ 0 ∷ 0 ∷ 10 ∷ 0 ∷
    0 ∷ 1 ∷ 192 ∷ 0 ∷ 2 ∷ 1 ∷ 4 ∷ 0 ∷ 0 ∷ 0 ∷ 0 ∷ 0 ∷ 0 ∷ 0 ∷ 60 ∷ 0 ∷
    0 ∷ 0 ∷ 60 ∷ 0 ∷ 0 ∷ 0 ∷ 0 ∷ 0 ∷ 0 ∷ []

abbrev pub format : Format
format = record { order = Little; link = Ethernet }

abbrev pub none_skipped : Skipped
none_skipped = record { other = 0; malformed = 0 }

pub opens : format_of capture ≡ Ok format
unfolding capture
opens = refl

-- captured octets; source, destination, protocol, ports and class of service; octets; second
pub frames : ahead_in none_skipped (records_of format 24 (drop 24 capture)) ≡ record {
  frames = (
    record {
      captured = take 42 (drop 40 capture);
      fields = 167772161 ∷ 3221225985 ∷ 6 ∷ 1000 ∷ 443 ∷ 0 ∷ 4 ∷ 0 ∷ 0
          ∷ [];
      octets = 40;
      second = 1;
    },
    none_skipped,
  ) ∷ (
    record {
      captured = take 34 (drop 98 capture);
      fields = 167772161 ∷ 3221225985 ∷ 17 ∷ 0 ∷ 0 ∷ 0 ∷ 4 ∷ 0 ∷ 0
          ∷ [];
      octets = 520;
      second = 2;
    },
    none_skipped,
  ) ∷ (
    record {
      captured = take 34 (drop 148 capture);
      fields = 167772161 ∷ 3221225985 ∷ 1 ∷ 0 ∷ 0 ∷ 0 ∷ 4 ∷ 0 ∷ 0
          ∷ [];
      octets = 84;
      second = 3;
    },
    none_skipped,
  ) ∷ [];
  skipped = none_skipped;
  fault = Some (fault_at 703 (places.Octet 182));
}
unfolding capture
frames = refl
