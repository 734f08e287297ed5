-- Network documents: devices, the links between them, and the requested report.
use Rattle.std.specs.Prelude.{ℕ, List, [], ◌∷◌, codes, map, nat_lt, Option}
use Rattle.std.specs.Option.{option_map}
use Rattle.serde_json.specs.Data.{Data}
use Rattle.fx_base.specs.Entries.{entry_numbered}
use Rattle.fx_base.specs.Refusals.{too_many_entries}
use Rattle.fx_config.specs.declared.ipfix.Device.{Device}
use Rattle.fx_walk.specs.Pointer.{below}
use Rattle.fx_walk.specs.Walk.{FoundFault, Row, object_faults, required_row, then_check, fault_if, member_of}
use Rattle.fx_walk.specs.Lists.{items_of}
use Rattle.fx_topology.specs.Limits.{command_sizes}
use Rattle.fx_topology.specs.declared.limits.Sizes.{Sizes}
use Rattle.fx_topology.specs.declared.network.NetworkDocument.{NetworkDocument}
use Rattle.fx_topology.specs.declared.network_device.NetworkDevice.{NetworkDevice}
use Rattle.fx_walk.specs.RequiredLists.{required_entries}
use Rattle.fx_topology.specs.NetworkDevices.{network_device_faults, network_device_of, process_count}
use Rattle.fx_topology.specs.Links.{link_of, links_row}
use Rattle.fx_topology.specs.Reports.{report_faults, report_of}

abbrev pub devices_of : Data → List NetworkDevice
devices_of d = map network_device_of (items_of (member_of (codes "devices") d))

-- links and the report refer to the devices by name
abbrev pub network_rows_within : Sizes → List NetworkDevice → List Row
network_rows_within sizes devices =
    required_entries sizes.devices (codes "devices") network_device_faults (λ d. (network_device_of d).name)
    ∷ then_check (λ up d. fault_if (nat_lt sizes.processes (process_count devices)) too_many_entries
    (below up (codes "devices")))
    ∷ links_row sizes.links devices
    ∷ required_row (codes "report") (report_faults devices)
    ∷ []

abbrev pub network_rows : List NetworkDevice → List Row
network_rows = network_rows_within command_sizes

-- the names of its devices
abbrev pub device_names : NetworkDocument → List (List ℕ)
device_names network = map (λ device. device.name) network.devices

-- the faults of a document of a network of at most these sizes
abbrev pub network_faults_within : Sizes → List ℕ → Data → List FoundFault
network_faults_within sizes up d = object_faults (network_rows_within sizes (devices_of d)) up d

abbrev pub network_faults : List ℕ → Data → List FoundFault
network_faults up d = object_faults (network_rows (devices_of d)) up d

abbrev pub network_of : Data → NetworkDocument
network_of d = record {
  devices = devices_of d;
  links = map link_of (items_of (member_of (codes "links") d));
  report = report_of (member_of (codes "report") d);
}

-- the configuration of the device of this number, counted from 1
abbrev pub device_numbered : NetworkDocument → ℕ → Option Device
device_numbered network number = option_map (λ device. device.config) (entry_numbered network.devices number)
