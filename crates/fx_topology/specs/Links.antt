-- The links of a network document: which destination of which exporting process leads to which collecting process.
use Rattle.std.specs.Prelude.{ℕ, ◌+◌, List, [], ◌∷◌, ◌++◌, Bool, ◌&&◌, not, false, codes, map, Option, Some, None, if◌then◌else◌, take}
use Rattle.std.specs.List.{list_any}
use Rattle.std.specs.Str.{bytes_eq}
use Rattle.serde_json.specs.Data.{Data}
use Rattle.fx_walk.specs.Pointer.{nth}
use Rattle.fx_walk.specs.Walk.{FoundFault, Row, object_faults, required_row, then_check, fault_if, member_of}
use Rattle.fx_walk.specs.Lists.{is_among, list_faults}
use Rattle.fx_walk.specs.Scalars.{name_faults, text_of}
use Rattle.fx_config.specs.declared.ipfix.Device.{Device}
use Rattle.fx_config.specs.declared.exporting_process.ExportingProcess.{ExportingProcess}
use Rattle.fx_topology.specs.declared.link.NamedLink.{NamedLink}
use Rattle.fx_topology.specs.declared.network_device.NetworkDevice.{NetworkDevice}
use Rattle.fx_base.specs.Refusals.{linked_twice, unknown_link_end}

abbrev pub link_of : Data → NamedLink
link_of d = record {
  device = text_of (member_of (codes "device") d);
  exporting_process = text_of (member_of (codes "exportingProcess") d);
  destination = text_of (member_of (codes "destination") d);
  to_device = text_of (member_of (codes "toDevice") d);
  to_process = text_of (member_of (codes "toProcess") d);
}

-- ---- what its names stand for

-- the configuration of the device of this name
abbrev pub device_named : List NetworkDevice → List ℕ → Option Device
device_named [] name = None
device_named (x ∷ xs) name = if bytes_eq x.name name then Some x.config else device_named xs name

-- an exporting process has this name and a destination of that name
abbrev pub sends_to : List ℕ → List ℕ → ExportingProcess → Bool
sends_to process destination exporting =
    bytes_eq exporting.name process && is_among (map (λ x. x.name) exporting.destinations) destination

abbrev pub has_destination : List ℕ → List ℕ → Option Device → Bool
has_destination process destination None = false
has_destination process destination (Some device) = list_any (sends_to process destination) device.exporting_processes

abbrev pub has_collecting_process : List ℕ → Option Device → Bool
has_collecting_process process None = false
has_collecting_process process (Some device) = is_among (map (λ x. x.name) device.collecting_processes) process

-- both ends of a link exist
abbrev pub has_ends : List NetworkDevice → NamedLink → Bool
has_ends devices link =
    has_destination link.exporting_process link.destination (device_named devices link.device)
    && has_collecting_process link.to_process (device_named devices link.to_device)

-- two links lead from one destination
abbrev pub same_start : NamedLink → NamedLink → Bool
same_start a b = bytes_eq a.device b.device &&
    (bytes_eq a.exporting_process b.exporting_process && bytes_eq a.destination b.destination)

-- one of these links leads from the same destination
abbrev pub starts_there : List NamedLink → NamedLink → Bool
starts_there earlier link = list_any (same_start link) earlier

-- ---- faults

-- a link after others: its members, its ends (201), a second link of one destination (202)
abbrev pub link_rows : List NetworkDevice → List NamedLink → List Row
link_rows devices earlier =
    required_row (codes "device") name_faults
    ∷ required_row (codes "exportingProcess") name_faults
    ∷ required_row (codes "destination") name_faults
    ∷ required_row (codes "toDevice") name_faults
    ∷ required_row (codes "toProcess") name_faults
    ∷ then_check (λ up d. fault_if (not (has_ends devices (link_of d))) unknown_link_end up)
    ∷ then_check (λ up d. fault_if (starts_there earlier (link_of d)) linked_twice up)
    ∷ []

-- the names of a link
abbrev pub name_rows : List Row
name_rows = take 5 (link_rows [] [])

abbrev pub link_faults : List NetworkDevice → List NamedLink → List ℕ → Data → List FoundFault
link_faults devices earlier = object_faults (link_rows devices earlier)

-- the faults of the links from the i-th on, after these earlier ones
abbrev pub links_faults : List NetworkDevice → List NamedLink → List ℕ → ℕ → List Data → List FoundFault
links_faults devices earlier up i [] = []
links_faults devices earlier up i (d ∷ ds) = link_faults devices earlier (nth up i) d
    ++ links_faults devices (earlier ++ link_of d ∷ []) up (i + 1) ds

-- the list of links: it is required, may be empty and holds at most `most` of them
abbrev pub links_row : ℕ → List NetworkDevice → Row
links_row most devices = required_row (codes "links") (list_faults 0 most (λ up ds. links_faults devices [] up 0 ds))

-- whether a link leads from this destination of an exporting process of a device
abbrev pub leads_from : List ℕ → List ℕ → List ℕ → NamedLink → Bool
leads_from device process destination link =
    bytes_eq link.device device && (bytes_eq link.exporting_process process && bytes_eq link.destination destination)
