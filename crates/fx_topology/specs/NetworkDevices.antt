-- The devices of a network document.
use Rattle.std.specs.Prelude.{ℕ, List, [], ◌∷◌, codes, length, sum_by}
use Rattle.serde_json.specs.Data.{Data}
use Rattle.fx_walk.specs.Walk.{FoundFault, Row, object_faults, required_row, member_of}
use Rattle.fx_walk.specs.Lists.{name_once}
use Rattle.fx_walk.specs.Scalars.{text_of}
use Rattle.fx_config.specs.Devices.{device_faults, device_of}
use Rattle.fx_topology.specs.declared.network_device.NetworkDevice.{NetworkDevice}

abbrev pub network_device_rows : List (List ℕ) → List Row
network_device_rows earlier =
    required_row (codes "name") (name_once earlier)
    ∷ required_row (codes "config") device_faults
    ∷ []

abbrev pub network_device_faults : List (List ℕ) → List ℕ → Data → List FoundFault
network_device_faults earlier = object_faults (network_device_rows earlier)

abbrev pub network_device_of : Data → NetworkDevice
network_device_of d = record {
  name = text_of (member_of (codes "name") d);
  config = device_of (member_of (codes "config") d);
}

-- the number of collecting processes of these devices
abbrev pub process_count : List NetworkDevice → ℕ
process_count devices = sum_by (λ x. length x.config.collecting_processes) devices
