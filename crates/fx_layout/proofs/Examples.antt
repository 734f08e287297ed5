-- Keys worked out by the definitions.
use Rattle.std.proofs.Common.{◌≡◌, ℕ, true, false, [], ◌∷◌, refl}
use Rattle.std.specs.List.{list_all}
use Rattle.fx_elements.specs.declared.axis.Axis.TheVariants.{Source, Destination, Protocol, DestinationPort}
use Rattle.fx_elements.specs.Axes.{Fields}
use Rattle.fx_layout.specs.declared.layout.Part.{Part}
use Rattle.fx_layout.specs.Keys.{Key, reads, refines, can_stand, with_part, key_of, bits_on, project, same_key, comes_before}

-- from 10.1.2.3 to 192.0.2.1, by TCP from port 1000 to port 80
abbrev a_packet : Fields
a_packet = 167838211 ∷ 3221225985 ∷ 6 ∷ 1000 ∷ 80 ∷ 0 ∷ 4 ∷ 0 ∷ 0 ∷ []

abbrev source : ℕ → Part
source bits = record { axis = Source; bits = bits }

abbrev destination : ℕ → Part
destination bits = record { axis = Destination; bits = bits }

abbrev port : Part
port = record { axis = DestinationPort; bits = 16 }

-- a key that is only a prefix of the source: its leading bits as a number, without the others
abbrev source_key : ℕ → ℕ → Key
source_key bits value = record { layout = source bits ∷ []; values = value ∷ [] }

-- ---- keys of a packet

-- 10.1.2.0/24 is the number 10 * 65536 + 1 * 256 + 2
key_of_prefix : key_of (source 24 ∷ []) a_packet ≡ source_key 24 655618
key_of_prefix = refl

-- all 32 bits are the address itself
key_of_address : key_of (source 32 ∷ []) a_packet ≡ source_key 32 167838211
key_of_address = refl

-- 10.0.0.0/8
key_of_octet : key_of (source 8 ∷ []) a_packet ≡ source_key 8 10
key_of_octet = refl

-- of 192 one bit is 1, and of 10 it is 0
key_of_bits : key_of (source 1 ∷ destination 1 ∷ []) a_packet
    ≡ record { layout = source 1 ∷ destination 1 ∷ []; values = 0 ∷ 1 ∷ [] }
key_of_bits = refl

-- one value for each part, in order
key_of_parts : key_of (source 24 ∷ destination 32 ∷ port ∷ []) a_packet
    ≡ record { layout = source 24 ∷ destination 32 ∷ port ∷ []; values = 655618 ∷ 3221225985 ∷ 80 ∷ [] }
key_of_parts = refl

-- all packets have the key that has no parts
key_of_nothing : key_of [] a_packet ≡ record { layout = []; values = [] }
key_of_nothing = refl

-- ---- coarser keys

-- of 10.1.2.0/24 the leading 16 bits are 10.1, and the leading 8 are 10
cut_to_16 : bits_on (source_key 24 655618) Source 16 ≡ 2561
cut_to_16 = refl

cut_to_8 : bits_on (source_key 24 655618) Source 8 ≡ 10
cut_to_8 = refl

-- as many bits as it has are all of them
cut_to_24 : bits_on (source_key 24 655618) Source 24 ≡ 655618
cut_to_24 = refl

-- of the source and the destination, the leading bits of the one that is asked for
cut_destination : bits_on (record { layout = source 24 ∷ destination 32 ∷ []; values = 655618 ∷ 3221225985 ∷ [] })
    Destination 24 ≡ 12582914
cut_destination = refl

-- 10.1.2.0/24 is in 10.1.0.0/16
project_to_16 : project (source_key 24 655618) (source 16 ∷ []) ≡ source_key 16 2561
project_to_16 = refl

-- parts may be left out
project_away : project (record {
  layout = source 24 ∷ destination 32 ∷ port ∷ [];
  values = 655618 ∷ 3221225985 ∷ 80
      ∷ [];
}) (source 8 ∷ port ∷ []) ≡ record { layout = source 8 ∷ port ∷ []; values = 10 ∷ 80 ∷ [] }
project_away = refl

-- ---- which layouts can be read from which

-- 24 bits tell 16 and 24, and don't tell 25
tells_fewer : refines (source 24 ∷ []) (source 16 ∷ []) ≡ true
tells_fewer = refl

tells_as_many : refines (source 24 ∷ []) (source 24 ∷ []) ≡ true
tells_as_many = refl

tells_no_more : refines (source 24 ∷ []) (source 25 ∷ []) ≡ false
tells_no_more = refl

-- an axis more does no harm, and one that is missing does
tells_one_axis : refines (source 24 ∷ port ∷ []) (source 24 ∷ []) ≡ true
tells_one_axis = refl

misses_an_axis : refines (source 24 ∷ []) (source 24 ∷ port ∷ []) ≡ false
misses_an_axis = refl

-- the source says nothing of the destination
another_axis : refines (source 32 ∷ []) (destination 8 ∷ []) ≡ false
another_axis = refl

-- every layout tells nothing
tells_nothing : refines [] [] ≡ true
tells_nothing = refl

reads_fewer : reads (source 24 ∷ port ∷ []) Source 16 ≡ true
reads_fewer = refl

reads_no_protocol : reads (source 24 ∷ port ∷ []) Protocol 8 ≡ false
reads_no_protocol = refl

-- ---- layouts

-- an address has from 1 to 32 bits, and a port all of its 16
prefixes_stand : list_all can_stand (source 1 ∷ source 32 ∷ port ∷ []) ≡ true
prefixes_stand = refl

no_bits : can_stand (source 0) ≡ false
no_bits = refl

too_many_bits : can_stand (source 33) ≡ false
too_many_bits = refl

half_a_port : can_stand (record { axis = DestinationPort; bits = 8 }) ≡ false
half_a_port = refl

-- parts stand in the order of the axes, whatever order they come in
in_order : with_part (source 24 ∷ port ∷ []) (destination 32) ≡ source 24 ∷ destination 32 ∷ port ∷ []
in_order = refl

-- ---- equal keys, and their order

same_prefix : same_key (key_of (source 24 ∷ []) a_packet) (project (key_of (source 32 ∷ []) a_packet) (source 24 ∷ []))
    ≡ true
same_prefix = refl

-- 10.1.2.0/24 isn't 10.1.3.0/24, and 0.10.1.2/32 has the same number but more bits
next_prefix : same_key (source_key 24 655618) (source_key 24 655619) ≡ false
next_prefix = refl

same_number : same_key (source_key 24 655618) (source_key 32 655618) ≡ false
same_number = refl

-- by the first value that differs
first_differs : comes_before (9 ∷ 443 ∷ []) (10 ∷ 80 ∷ []) ≡ true
first_differs = refl

second_differs : comes_before (10 ∷ 443 ∷ []) (10 ∷ 80 ∷ []) ≡ false
second_differs = refl

not_before_itself : comes_before (10 ∷ 80 ∷ []) (10 ∷ 80 ∷ []) ≡ false
not_before_itself = refl
