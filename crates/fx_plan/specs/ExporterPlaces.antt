-- The index of an exporting process, given by numbers, in the table of exporting processes.
use Rattle.std.specs.Prelude.{ℕ, List, Option, Some, None}
use Rattle.fx_config.specs.declared.exporting_process.ExportingProcess.{ExportingProcess}
use Rattle.fx_base.specs.Entries.{entry_numbered}
use Rattle.fx_topology.specs.declared.network.NetworkDocument.{NetworkDocument}
use Rattle.fx_topology.specs.declared.network_device.NetworkDevice.{NetworkDevice}
use Rattle.fx_plan.specs.Labels.{exporting_labels, place}

-- the index of the exporting process with this name on the device with this name
abbrev pub place_of_process : List NetworkDevice → NetworkDevice → Option ExportingProcess → Option ℕ
place_of_process devices device None = None
place_of_process devices device (Some process) = Some (place (exporting_labels devices) device.name process.name)

abbrev pub place_on_device : List NetworkDevice → Option NetworkDevice → ℕ → Option ℕ
place_on_device devices None exporter = None
place_on_device devices (Some device) exporter =
    place_of_process devices device (entry_numbered device.config.exporting_processes exporter)

-- the index of the exporting process with this number on the device with this number, both from 1 in document order
abbrev pub exporter_place : NetworkDocument → ℕ → ℕ → Option ℕ
exporter_place network device exporter =
    place_on_device network.devices (entry_numbered network.devices device) exporter
