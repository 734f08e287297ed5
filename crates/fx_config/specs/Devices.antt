-- A device's configuration document (RFC 6728, section 6, in the JSON of RFC 7951).
use Rattle.std.specs.Prelude.{ℕ, List, [], ◌∷◌, codes, map, take, drop}
use Rattle.serde_json.specs.Data.{Data}
use Rattle.fx_walk.specs.Walk.{FoundFault, Row, object_faults, open_object_faults, required_row, then_check, member_of}
use Rattle.fx_walk.specs.Lists.{entries, items_of}
use Rattle.fx_config.specs.ObservationPoints.{observation_point_faults, observation_point_of}
use Rattle.fx_config.specs.SelectionProcesses.{selection_process_faults, selection_process_of}
use Rattle.fx_config.specs.Caches.{cache_faults, cache_of}
use Rattle.fx_config.specs.ExportingProcesses.{exporting_process_faults, exporting_process_of}
use Rattle.fx_config.specs.CollectingProcesses.{collecting_process_faults, collecting_process_of}
use Rattle.fx_config.specs.References.{reference_faults}
use Rattle.fx_config.specs.Limits.{entry_limit}
use Rattle.fx_config.specs.declared.ipfix.Device.{Device}
use Rattle.fx_config.specs.declared.ipfix.Ipfix.{Ipfix}
use Rattle.fx_config.specs.declared.ipfix.Lists.{Lists}
use Rattle.fx_config.specs.declared.ipfix.Referred.{Referred}
use Rattle.fx_config.specs.declared.observation_point.ObservationPoint.{ObservationPoint}
use Rattle.fx_config.specs.declared.collecting_process.CollectingProcess.{CollectingProcess}
use Rattle.fx_walk.specs.NamedEntries.{named_entries}

-- ---- the container ipfix

abbrev pub lists_of : Data → Device
lists_of d = record {
  observation_points = map observation_point_of (items_of (member_of (codes "observationPoint") d));
  selection_processes = map selection_process_of (items_of (member_of (codes "selectionProcess") d));
  caches = map cache_of (items_of (member_of (codes "cache") d));
  exporting_processes = map exporting_process_of (items_of (member_of (codes "exportingProcess") d));
  collecting_processes = map collecting_process_of (items_of (member_of (codes "collectingProcess") d));
}

abbrev pub ipfix_rows : List Row
ipfix_rows =
    entries 0 entry_limit (codes "observationPoint") observation_point_faults (λ d. (observation_point_of d).name)
    ∷ entries 0 entry_limit (codes "selectionProcess") selection_process_faults (λ d. (selection_process_of d).name)
    ∷ entries 0 entry_limit (codes "cache") cache_faults (λ d. (cache_of d).name)
    ∷ entries 0 entry_limit (codes "exportingProcess") exporting_process_faults (λ d. (exporting_process_of d).name)
    ∷ entries 0 entry_limit (codes "collectingProcess") collecting_process_faults (λ d. (collecting_process_of d).name)
    ∷ then_check (λ up d. reference_faults up (lists_of d))
    ∷ []

-- the rows of all lists, and of the lists to whose entries others refer
abbrev pub list_rows : List Row
list_rows = take 5 ipfix_rows

abbrev pub referred_rows : List Row
referred_rows = take 3 (drop 1 list_rows)

abbrev pub referred_of : Data → Referred
referred_of d = record {
  selecting = named_entries (λ x. x.name)
      (map selection_process_of (items_of (member_of (codes "selectionProcess") d)));
  caches = named_entries (λ x. x.name) (map cache_of (items_of (member_of (codes "cache") d)));
  exporting = named_entries (λ x. x.name)
      (map exporting_process_of (items_of (member_of (codes "exportingProcess") d)));
}

abbrev pub with_others : List ObservationPoint → Referred → List CollectingProcess → Lists
with_others points referred collecting = record {
  device = record {
    observation_points = points;
    selection_processes = referred.selecting.items;
    caches = referred.caches.items;
    exporting_processes = referred.exporting.items;
    collecting_processes = collecting;
  };
  known = record {
    selecting = referred.selecting.names;
    caches = referred.caches.names;
    exporting = referred.exporting.names;
  };
}

abbrev pub named_lists_of : Data → Lists
named_lists_of d = with_others (map observation_point_of (items_of (member_of (codes "observationPoint") d)))
    (referred_of d) (map collecting_process_of (items_of (member_of (codes "collectingProcess") d)))

abbrev pub ipfix_faults : List ℕ → Data → List FoundFault
ipfix_faults = object_faults ipfix_rows

abbrev pub ipfix_of : Data → Ipfix
ipfix_of d = record { device = lists_of d }

-- ---- the document: the two definitions that other crates use

abbrev pub device_rows : List Row
device_rows =
    required_row (codes "ietf-ipfix-psamp:ipfix") ipfix_faults
    ∷ []

unfoldable pub device_faults : List ℕ → Data → List FoundFault
device_faults up d = open_object_faults (codes "ietf-ipfix-psamp") device_rows up d

unfoldable pub device_of : Data → Device
device_of d = lists_of (member_of (codes "ietf-ipfix-psamp:ipfix") d)
