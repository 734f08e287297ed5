-- The tables of the network that a document declares.
use Rattle.std.specs.Prelude.{ℕ, ◌+◌, List, [], ◌∷◌, ◌++◌, length, Bool, true, false, ◌&&◌, map, Option, Some, None, option_map, option_and_then, if◌then◌else◌}
use Rattle.std.specs.List.{flat_map, position}
use Rattle.std.specs.Option.{unwrap_or}
use Rattle.std.specs.Str.{bytes_eq}
use Rattle.fx_elements.specs.Axes.{axis_width}
use Rattle.fx_layout.specs.Keys.{Layout, leading_bits}
use Rattle.fx_tables.specs.Network as machine
use Rattle.fx_tables.specs.declared.aggregation.MatchEntry.{MatchEntry}
use Rattle.fx_tables.specs.declared.observation.Selection.{Selection}
use Rattle.fx_config.specs.declared.observation_point.ObservationPoint.{ObservationPoint}
use Rattle.fx_config.specs.declared.selection_process.SelectionProcess.{SelectionProcess}
use Rattle.fx_config.specs.declared.cache.Cache.{Cache}
use Rattle.fx_config.specs.declared.exporting_process.ExportingProcess.{ExportingProcess}
use Rattle.fx_config.specs.declared.exporting_process.ExportMode.{ExportMode}
use Rattle.fx_config.specs.declared.exporting_process.ExportMode.TheVariants.{Parallel, LoadBalancing, Fallback}
use Rattle.fx_config.specs.declared.observation_point.Direction.{Direction}
use Rattle.fx_config.specs.declared.observation_point.Direction.TheVariants.{Ingress, Egress, Both}
use Rattle.fx_config.specs.declared.collecting_process.CollectingProcess.{CollectingProcess}
use Rattle.fx_config.specs.declared.aggregation.Aggregation.{Aggregation}
use Rattle.fx_config.specs.declared.property_match.PropertyMatch.{PropertyMatch}
use Rattle.fx_selectors.specs.Selection.{region_of}
use Rattle.fx_topology.specs.declared.link.NamedLink.{NamedLink}
use Rattle.fx_topology.specs.declared.network.NetworkDocument.{NetworkDocument}
use Rattle.fx_topology.specs.declared.network_device.NetworkDevice.{NetworkDevice}
use Rattle.fx_plan.specs.Labels.{Label, exporting_labels, cache_labels, collecting_labels, place}
use Rattle.fx_topology.specs.Links.{leads_from}
use Rattle.fx_topology.specs.Reports.{key_layout}

-- ---- exporting processes: each destination with the index of the link that leads from it, if any

-- whether each record goes to all destinations; in the other modes it goes to any one of them
abbrev pub is_parallel : ExportMode → Bool
is_parallel Parallel = true
is_parallel LoadBalancing = false
is_parallel Fallback = false

abbrev pub exporter_of : List NamedLink → List ℕ → ExportingProcess → machine.Exporter
exporter_of links device process = record {
  parallel = is_parallel process.mode;
  destinations = map (λ d. position (leads_from device process.name d.name) links) process.destinations;
}

abbrev pub exporters_of : List NamedLink → List NetworkDevice → List machine.Exporter
exporters_of links devices = flat_map (λ x. map (exporter_of links x.name) x.config.exporting_processes) devices

-- ---- holders of records: all caches, then all aggregations, with the indices of the exporting processes that they
-- name

abbrev pub holder_with : List Label → List ℕ → Layout → List (List ℕ) → machine.Holder
holder_with exporting device layout names = record { layout = layout; exporters = map (place exporting device) names }

abbrev pub cache_holder : List Label → List ℕ → Cache → machine.Holder
cache_holder exporting device cache = holder_with exporting device cache.layout cache.exporting_processes

abbrev pub aggregation_holder : List Label → List ℕ → Aggregation → machine.Holder
aggregation_holder exporting device aggregation =
    holder_with exporting device aggregation.key aggregation.exporting_processes

-- the holders of the records of these processes' aggregations
abbrev pub held_by : List Label → List ℕ → List CollectingProcess → List machine.Holder
held_by exporting device processes = flat_map (λ p. map (aggregation_holder exporting device) p.aggregations) processes

abbrev pub cache_holders : List Label → List NetworkDevice → List machine.Holder
cache_holders exporting devices = flat_map (λ x. map (cache_holder exporting x.name) x.config.caches) devices

abbrev pub aggregation_holders : List Label → List NetworkDevice → List machine.Holder
aggregation_holders exporting devices = flat_map (λ x. held_by exporting x.name x.config.collecting_processes) devices

abbrev pub holders_of : List NetworkDevice → List machine.Holder
holders_of devices = cache_holders (exporting_labels devices) devices
    ++ aggregation_holders (exporting_labels devices) devices

-- ---- collecting processes, with the exporting processes that they name and their aggregations

-- the leading bits that a match fixes
abbrev pub match_entry : PropertyMatch → MatchEntry
match_entry m = record {
  axis = m.axis;
  bits = m.range.bits;
  value =
      leading_bits (axis_width m.axis) m.range.bits m.range.low;
}

-- aggregations whose holders begin at this index
abbrev pub aggregations_from : ℕ → List Aggregation → List machine.AggregationEntry
aggregations_from holder [] = []
aggregations_from holder (a ∷ rest) = record { holder = holder; matches = map match_entry a.matches }
    ∷ aggregations_from (holder + 1) rest

abbrev pub process_from : List Label → List ℕ → ℕ → CollectingProcess → machine.Process
process_from exporting device holder process = record {
  exporters = map (place exporting device) process.exporting_processes;
  aggregations = aggregations_from holder process.aggregations;
}

abbrev pub processes_from : List Label → List ℕ → ℕ → List CollectingProcess → List machine.Process
processes_from exporting device holder [] = []
processes_from exporting device holder (p ∷ ps) = process_from exporting device holder p
    ∷ processes_from exporting device (holder + length p.aggregations) ps

abbrev pub processes_in : List Label → ℕ → List NetworkDevice → List machine.Process
processes_in exporting holder [] = []
processes_in exporting holder (x ∷ xs) =
    processes_from exporting x.name holder x.config.collecting_processes
    ++ processes_in exporting (holder + length (held_by exporting x.name x.config.collecting_processes)) xs

-- collecting processes, whose holders come after those of all caches
abbrev pub processes_of : List NetworkDevice → List machine.Process
processes_of devices = processes_in (exporting_labels devices)
    (length (cache_holders (exporting_labels devices) devices)) devices

-- ---- devices

abbrev pub process_named : List SelectionProcess → List ℕ → Option SelectionProcess
process_named [] name = None
process_named (p ∷ ps) name = if bytes_eq p.name name then Some p else process_named ps name

-- the selection process of this name, with the index of its cache, if any
abbrev pub selection_of : List Label → NetworkDevice → List ℕ → Selection
selection_of caches x name = record {
  region = option_and_then region_of (process_named x.config.selection_processes name);
  holder = option_map (place caches x.name)
      (option_and_then (λ p. p.cache) (process_named x.config.selection_processes name));
}

-- whether a point observes packets that come in, and packets that go out
abbrev pub sees_in : Direction → Bool
sees_in Ingress = true
sees_in Egress = false
sees_in Both = true

abbrev pub sees_out : Direction → Bool
sees_out Ingress = false
sees_out Egress = true
sees_out Both = true

abbrev pub point_of : List Label → NetworkDevice → ObservationPoint → machine.Point
point_of caches x point = record {
  interfaces = point.interfaces;
  ingress = sees_in point.direction;
  egress = sees_out point.direction;
  selections = map (selection_of caches x) point.selection_processes;
}

abbrev pub table_of : List Label → List Label → NetworkDevice → machine.DeviceEntry
table_of caches collecting x = record {
  points = map (point_of caches x) x.config.observation_points;
  caches = map (λ c. place caches x.name c.name) x.config.caches;
  processes = map (λ p. place collecting x.name p.name) x.config.collecting_processes;
}

-- ---- the network

abbrev pub report_layout_of : NetworkDocument → Layout
report_layout_of network = unwrap_or (key_layout network.report.key) []

unfoldable pub net_of : NetworkDocument → machine.Net
net_of network =
    let collecting = collecting_labels network.devices in
    record {
      devices = map (table_of (cache_labels network.devices) collecting) network.devices;
      exporters = exporters_of network.links network.devices;
      holders = holders_of network.devices;
      processes = processes_of network.devices;
      links = map (λ link. place collecting link.to_device link.to_process) network.links;
      report = place collecting network.report.device network.report.collecting_process;
      report_layout = report_layout_of network;
    }
