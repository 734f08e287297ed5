-- Classes of packets and their paths.
use Rattle.std.specs.Prelude.{◌≡◌, ◌≢◌, ◌&&◌, is_some, Bool, true, false, not, List, [], filter, Option, Some, None}
use Rattle.fx_boxes.specs.Boxes.{Bounds, holds}
use Rattle.fx_tables.specs.declared.packet.Packet.{Packet}
use Rattle.fx_tables.specs.declared.traffic.Crossing.{Crossing}
use Rattle.fx_base.specs.Entries.{entry_numbered}
use Rattle.fx_tables.specs.Network.{entries}

pub record Class : Type 0 where
  pub region : Bounds
  pub paths : List (List Crossing)
  pub exempt : Bool  -- its packets must never be counted

abbrev pub paths_of : Option Class → List (List Crossing)
paths_of None = []
paths_of (Some class) = class.paths

-- whether this is an exempt class
abbrev pub exempts : Option Class → Bool
exempts None = false
exempts (Some class) = class.exempt

-- the packets that are to be counted: those of classes that aren't exempt
abbrev pub to_count : List Class → List Packet → List Packet
to_count classes = filter (λ packet. not (exempts (entry_numbered classes packet.class)))

-- the crossings of a packet
abbrev pub path : List Class → Packet → List Crossing
path classes packet = entries (entry_numbered (paths_of (entry_numbered classes packet.class)) packet.path)

-- a packet is in the region of a class and has one of its paths
abbrev pub IsOf : Packet → Option Class → Type 0
IsOf packet None = ⊥
IsOf packet (Some class) = (holds class.region packet.fields ≡ true) × (entry_numbered class.paths packet.path ≢ None)

-- the same as a decision: whether the packet has one of the paths of the class, and fields in its region
abbrev pub is_of : Packet → Option Class → Bool
is_of packet None = false
is_of packet (Some class) = holds class.region packet.fields && is_some (entry_numbered class.paths packet.path)
