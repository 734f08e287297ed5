-- The information elements that are distinguished, with their names and numbers in the IANA registry (RFC 7012, section
-- 4).
use Rattle.std.specs.Prelude.{ℕ, ◌==◌, if◌then◌else◌, List, [], ◌∷◌, codes}
use Rattle.std.specs.Str.{bytes_eq}
use Rattle.fx_elements.specs.declared.axis.Axis.{Axis}
use Rattle.fx_elements.specs.declared.element.Element.{Element}
use Rattle.fx_elements.specs.declared.element.Element.TheVariants.{OnAxis, OctetDeltaCount, PacketDeltaCount, OctetTotalCount, PacketTotalCount, Prefix, PrefixLength, Other}
use Rattle.fx_elements.specs.declared.axis.Axis.TheVariants.{Source, Destination, Protocol, SourcePort, DestinationPort, ClassOfService, Version, Source6, Destination6}

-- a line of the registry
pub record Registered : Type 0 where
  pub number : ℕ
  pub name : List ℕ
  pub element : Element

abbrev pub registry : List Registered
registry =
    record { number = 1; name = codes "octetDeltaCount"; element = OctetDeltaCount } ∷
    record { number = 2; name = codes "packetDeltaCount"; element = PacketDeltaCount } ∷
    record { number = 4; name = codes "protocolIdentifier"; element = OnAxis Protocol } ∷
    record { number = 5; name = codes "ipClassOfService"; element = OnAxis ClassOfService } ∷
    record { number = 7; name = codes "sourceTransportPort"; element = OnAxis SourcePort } ∷
    record { number = 8; name = codes "sourceIPv4Address"; element = OnAxis Source } ∷
    record { number = 9; name = codes "sourceIPv4PrefixLength"; element = PrefixLength Source } ∷
    record { number = 11; name = codes "destinationTransportPort"; element = OnAxis DestinationPort } ∷
    record { number = 12; name = codes "destinationIPv4Address"; element = OnAxis Destination } ∷
    record { number = 13; name = codes "destinationIPv4PrefixLength"; element = PrefixLength Destination } ∷
    record { number = 27; name = codes "sourceIPv6Address"; element = OnAxis Source6 } ∷
    record { number = 28; name = codes "destinationIPv6Address"; element = OnAxis Destination6 } ∷
    record { number = 29; name = codes "sourceIPv6PrefixLength"; element = PrefixLength Source6 } ∷
    record { number = 30; name = codes "destinationIPv6PrefixLength"; element = PrefixLength Destination6 } ∷
    record { number = 44; name = codes "sourceIPv4Prefix"; element = Prefix Source } ∷
    record { number = 45; name = codes "destinationIPv4Prefix"; element = Prefix Destination } ∷
    record { number = 60; name = codes "ipVersion"; element = OnAxis Version } ∷
    record { number = 85; name = codes "octetTotalCount"; element = OctetTotalCount } ∷
    record { number = 86; name = codes "packetTotalCount"; element = PacketTotalCount } ∷
    record { number = 169; name = codes "destinationIPv6Prefix"; element = Prefix Destination6 } ∷
    record { number = 170; name = codes "sourceIPv6Prefix"; element = Prefix Source6 } ∷ []

-- the element of the first line with the name; a name in no line is that of another element
abbrev pub named_in : List Registered → List ℕ → Element
named_in [] name = Other
named_in (line ∷ lines) name = if bytes_eq name line.name then line.element else named_in lines name

abbrev pub element_named : List ℕ → Element
element_named name = named_in registry name

abbrev pub numbered_in : List Registered → ℕ → Element
numbered_in [] number = Other
numbered_in (line ∷ lines) number = if number == line.number then line.element else numbered_in lines number

-- an element of an enterprise is none of these
abbrev pub element_numbered : ℕ → ℕ → Element
element_numbered number enterprise = if enterprise == 0 then numbered_in registry number else Other

-- ---- the inverse: the names and numbers of an axis's elements

abbrev pub axis_name : Axis → List ℕ
axis_name Source = codes "sourceIPv4Address"
axis_name Destination = codes "destinationIPv4Address"
axis_name Protocol = codes "protocolIdentifier"
axis_name SourcePort = codes "sourceTransportPort"
axis_name DestinationPort = codes "destinationTransportPort"
axis_name ClassOfService = codes "ipClassOfService"
axis_name Version = codes "ipVersion"
axis_name Source6 = codes "sourceIPv6Address"
axis_name Destination6 = codes "destinationIPv6Address"

abbrev pub element_number : Axis → ℕ
element_number Source = 8
element_number Destination = 12
element_number Protocol = 4
element_number SourcePort = 7
element_number DestinationPort = 11
element_number ClassOfService = 5
element_number Version = 60
element_number Source6 = 27
element_number Destination6 = 28

-- only addresses have prefixes; 0 is no element's number
abbrev pub prefix_number : Axis → ℕ
prefix_number Source = 44
prefix_number Destination = 45
prefix_number Source6 = 170
prefix_number Destination6 = 169
prefix_number _ = 0

abbrev pub prefix_length_number : Axis → ℕ
prefix_length_number Source = 9
prefix_length_number Destination = 13
prefix_length_number Source6 = 29
prefix_length_number Destination6 = 30
prefix_length_number _ = 0
