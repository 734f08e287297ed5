-- What the texts of a region mean, worked out by the definitions.
use Rattle.std.proofs.Common.{◌≡◌, ℕ, List, [], ◌∷◌, Some, None, refl}
use Rattle.std.specs.Prelude.{codes}
use Rattle.std.specs.Str.{chars}
use Rattle.serde_json.specs.Data.{Data, object, member, no_members, string, number, unsigned}
use Rattle.fx_elements.specs.Spelling.{number_of, quad_of, prefix_of}
use Rattle.fx_elements.specs.declared.axis.Axis.TheVariants.{Source, Destination, Protocol, SourcePort, DestinationPort}
use Rattle.fx_elements.specs.declared.values.Range.{Range}
use Rattle.fx_traffic.specs.Regions.{values_on, region_of, region_faults, whole}

abbrev from_to : ℕ → ℕ → ℕ → Range
from_to low high bits = record { low = low; high = high; bits = bits }

-- ---- a prefix of addresses

-- from 10.0.0.0 to 10.255.255.255
a_prefix : values_on Source (codes "10.0.0.0/8") ≡ Some (from_to 167772160 184549375 8)
unfolding number_of quad_of prefix_of
a_prefix = refl

-- bits behind the first eight say nothing
cut_prefix : values_on Source (codes "10.1.2.3/8") ≡ Some (from_to 167772160 184549375 8)
unfolding number_of quad_of prefix_of
cut_prefix = refl

one_address_prefix : values_on Destination (codes "192.0.2.1/32") ≡ Some (from_to 3221225985 3221225985 32)
unfolding number_of quad_of prefix_of
one_address_prefix = refl

-- all addresses can't be reported by a prefix: no number of bits is 0
no_bits : values_on Source (codes "0.0.0.0/0") ≡ None
unfolding number_of quad_of prefix_of
no_bits = refl

too_many_bits : values_on Source (codes "10.0.0.0/33") ≡ None
unfolding number_of quad_of prefix_of
too_many_bits = refl

-- ports have no prefixes
port_prefix : values_on DestinationPort (codes "80/8") ≡ None
unfolding number_of
port_prefix = refl

-- ---- one value

an_address : values_on Source (codes "10.0.0.1") ≡ Some (from_to 167772161 167772161 32)
unfolding number_of quad_of
an_address = refl

a_protocol : values_on Protocol (codes "6") ≡ Some (from_to 6 6 8)
unfolding number_of
a_protocol = refl

last_port : values_on SourcePort (codes "65535") ≡ Some (from_to 65535 65535 16)
unfolding number_of
last_port = refl

past_last_port : values_on SourcePort (codes "65536") ≡ None
unfolding number_of
past_last_port = refl

past_last_protocol : values_on Protocol (codes "256") ≡ None
unfolding number_of
past_last_protocol = refl

-- no zero leads
leading_zero : values_on DestinationPort (codes "080") ≡ None
unfolding number_of
leading_zero = refl

three_octets : values_on Source (codes "10.0.0") ≡ None
unfolding number_of quad_of prefix_of
three_octets = refl

number_for_address : values_on Source (codes "167772161") ≡ None
unfolding number_of quad_of prefix_of
number_for_address = refl

nothing : values_on DestinationPort [] ≡ None
unfolding number_of
nothing = refl

-- ---- all from one value to another

ports : values_on DestinationPort (codes "80-443") ≡ Some (from_to 80 443 0)
unfolding number_of
ports = refl

one_port : values_on DestinationPort (codes "80-80") ≡ Some (from_to 80 80 0)
unfolding number_of
one_port = refl

addresses : values_on Source (codes "10.1.2.0-10.1.2.255") ≡ Some (from_to 167838208 167838463 0)
unfolding number_of quad_of
addresses = refl

-- the greater value stands in front
backwards : values_on DestinationPort (codes "443-80") ≡ None
unfolding number_of
backwards = refl

-- a hyphen in front, behind, twice, or within an address
hyphen_in_front : values_on DestinationPort (codes "-443") ≡ None
unfolding number_of
hyphen_in_front = refl

hyphen_behind : values_on DestinationPort (codes "80-") ≡ None
unfolding number_of
hyphen_behind = refl

two_hyphens : values_on DestinationPort (codes "80-90-443") ≡ None
unfolding number_of
two_hyphens = refl

hyphen_in_address : values_on Source (codes "10.0-0.1") ≡ None
unfolding number_of quad_of
hyphen_in_address = refl

-- ends are values, and no prefixes
prefix_at_end : values_on Source (codes "10.0.0.0-10.0.0.0/8") ≡ None
unfolding number_of quad_of
prefix_at_end = refl

-- no blank stands between
blank : values_on DestinationPort (codes "80 - 443") ≡ None
unfolding number_of
blank = refl

-- ---- a whole region

-- sources in 10.0.0.0/8 and ports from 80 to 443, and all values on the other axes
web : region_of (object (member (codes "destinationTransportPort") (string (codes "80-443"))
    (member (codes "sourceIPv4Address") (string (codes "10.0.0.0/8")) no_members))) ≡ record {
      low = 167772160 ∷ 0 ∷ 0 ∷ 0 ∷ 80 ∷ 0 ∷ 0 ∷ 0 ∷ 0 ∷ [];
      high = 184549375 ∷ 4294967295 ∷ 255 ∷ 65535 ∷ 443 ∷ 255 ∷ 255 ∷ 340282366920938463463374607431768211455
          ∷ 340282366920938463463374607431768211455 ∷ [];
    }
unfolding number_of quad_of prefix_of
web = refl

-- a region that names no axis is all fields
no_axis : region_of (object no_members) ≡ whole
no_axis = refl

all_fields : whole ≡ record {
  low = 0 ∷ 0 ∷ 0 ∷ 0 ∷ 0 ∷ 0 ∷ 0 ∷ 0 ∷ 0 ∷ [];
  high = 4294967295 ∷ 4294967295 ∷ 255 ∷ 65535
      ∷ 65535 ∷ 255 ∷ 255 ∷ 340282366920938463463374607431768211455 ∷ 340282366920938463463374607431768211455 ∷ [];
}
all_fields = refl

-- ---- what is refused

abbrev one_member : List ℕ → Data → Data
one_member name d = object (member name d no_members)

-- it stands at the member, by its name
refused : region_faults (codes "/region") (one_member (codes "destinationTransportPort") (string (codes "80-")))
    ≡ (302, codes "/region/destinationTransportPort") ∷ []
unfolding number_of chars lib.Utf8.encode
refused = refl

-- a number in place of a text is a value of another kind
number_for_text : region_faults (codes "/region") (one_member (codes "destinationTransportPort") (number (unsigned 80)))
    ≡ (104, codes "/region/destinationTransportPort") ∷ []
unfolding chars lib.Utf8.encode
number_for_text = refl

-- only axes have names
no_such_axis : region_faults (codes "/region") (one_member (codes "port") (string (codes "80")))
    ≡ (102, codes "/region/port") ∷ []
unfolding chars lib.Utf8.encode
no_such_axis = refl

-- axes in their order, whatever the order of the members
two_refused : region_faults (codes "/region")
    (object (member (codes "destinationTransportPort") (string (codes "443-80"))
    (member (codes "sourceIPv4Address") (string (codes "10.0.0")) no_members)))
    ≡ (302, codes "/region/sourceIPv4Address") ∷ (302, codes "/region/destinationTransportPort") ∷ []
unfolding number_of quad_of prefix_of chars lib.Utf8.encode
two_refused = refl

none_refused : region_faults (codes "/region") (one_member (codes "destinationTransportPort") (string (codes "80-443")))
    ≡ []
unfolding number_of
none_refused = refl
