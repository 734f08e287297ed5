-- References by name (the leafrefs of RFC 6728, section 6).
use Rattle.std.specs.Prelude.{ℕ, List, ◌++◌, codes, map, All, IfSome}
use Rattle.fx_walk.specs.Pointer.{below}
use Rattle.fx_walk.specs.Walk.{FoundFault}
use Rattle.fx_walk.specs.KnownNames.{IsKnown, member_references, unknown, unknown_if_there}
use Rattle.fx_config.specs.declared.observation_point.ObservationPoint.{ObservationPoint}
use Rattle.fx_config.specs.declared.selection_process.SelectionProcess.{SelectionProcess}
use Rattle.fx_config.specs.declared.cache.Cache.{Cache}
use Rattle.fx_config.specs.declared.aggregation.Aggregation.{Aggregation}
use Rattle.fx_config.specs.declared.collecting_process.CollectingProcess.{CollectingProcess}
use Rattle.fx_config.specs.declared.ipfix.Device.{Device}

-- the references of a point to its selection processes
abbrev pub point_references : List (List ℕ) → List ℕ → ObservationPoint → List FoundFault
point_references processes up point = member_references (unknown processes) up (codes "selectionProcess")
    point.selection_processes

-- the reference of a selection process to its cache
abbrev pub process_references : List (List ℕ) → List ℕ → SelectionProcess → List FoundFault
process_references caches up process = unknown_if_there caches (below up (codes "cache")) process.cache

-- the references to exporting processes, by name
abbrev pub exporting_references : List (List ℕ) → List ℕ → List (List ℕ) → List FoundFault
exporting_references exporters up names = member_references (unknown exporters) up (codes "exportingProcess") names

abbrev pub cache_references : List (List ℕ) → List ℕ → Cache → List FoundFault
cache_references exporters up cache = exporting_references exporters up cache.exporting_processes

abbrev pub aggregation_references : List (List ℕ) → List ℕ → Aggregation → List FoundFault
aggregation_references exporters up aggregation = exporting_references exporters up aggregation.exporting_processes

-- the references of a collecting process to exporting processes, and then those of its aggregations
abbrev pub collecting_references : List (List ℕ) → List ℕ → CollectingProcess → List FoundFault
collecting_references exporters up process =
    exporting_references exporters up process.exporting_processes
    ++ member_references (aggregation_references exporters) up (codes "once-audit:aggregation") process.aggregations

-- all references of a device, in the order of the walk, given the names of its selection processes, caches and
-- exporting processes
abbrev pub references_among : List (List ℕ) → List (List ℕ) → List (List ℕ) → List ℕ → Device → List FoundFault
references_among processes caches exporters up device =
    member_references (point_references processes) up (codes "observationPoint") device.observation_points
    ++ (member_references (process_references caches) up (codes "selectionProcess") device.selection_processes
    ++ (member_references (cache_references exporters) up (codes "cache") device.caches
    ++ member_references (collecting_references exporters) up (codes "collectingProcess") device.collecting_processes))

abbrev pub reference_faults : List ℕ → Device → List FoundFault
reference_faults up device =
    references_among (map (λ x. x.name) device.selection_processes) (map (λ x. x.name) device.caches)
    (map (λ x. x.name) device.exporting_processes) up device

-- each name that refers to an entry of the device is the name of one in the corresponding list
pub record Resolves (device : Device) : Type 0 where
  pub points : All (λ point. All (IsKnown (map (λ x. x.name) device.selection_processes)) point.selection_processes)
      device.observation_points
  pub processes : All (λ process. IfSome process.cache (IsKnown (map (λ x. x.name) device.caches)))
      device.selection_processes
  pub caches : All (λ cache. All (IsKnown (map (λ x. x.name) device.exporting_processes)) cache.exporting_processes)
      device.caches
  pub collecting : All (λ process. All (IsKnown (map (λ x. x.name) device.exporting_processes))
      process.exporting_processes) device.collecting_processes
  pub aggregations : All (λ process. All (λ aggregation. All (IsKnown (map (λ x. x.name) device.exporting_processes))
      aggregation.exporting_processes) process.aggregations) device.collecting_processes
