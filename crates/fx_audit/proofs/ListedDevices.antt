-- Each fault of a device's configuration has a number that is listed.
use Rattle.std.proofs.Common.{ℕ, ◌+◌, Bool, true, false, refl, List, [], ◌∷◌, Option, Some, None, codes}
use Rattle.std.specs.Prelude.{◌&&◌, map, not}
use Rattle.serde_json.specs.Data.{Data}
use Rattle.fx_elements.specs.declared.element.Element.{Element}
use Rattle.fx_layout.specs.Keys.{Layout}
use Rattle.fx_walk.specs.Pointer.{nth}
use Rattle.fx_config.specs.Aggregations.{aggregation_faults, aggregation_of, aggregation_rows}
use Rattle.fx_config.specs.CacheFields.{cache_field_faults, cache_field_of, cache_field_rows, element_faults, fields_row, is_key_in, is_on_axis, is_total_count, length_faults, length_in}
use Rattle.fx_config.specs.CacheFields as fields
use Rattle.fx_config.specs.CacheLayouts.{cache_layout_faults, cache_layout_rows}
use Rattle.fx_config.specs.Caches.{cache_faults, cache_of, cache_rows, settings_faults, settings_rows}
use Rattle.fx_config.specs.CollectingProcesses.{collecting_process_faults, collecting_process_of, collecting_process_rows}
use Rattle.fx_config.specs.Destinations.{destination_faults, destination_of, destination_rows, exporters}
use Rattle.fx_config.specs.Devices.{device_faults, device_rows, ipfix_faults, ipfix_rows, lists_of}
use Rattle.fx_config.specs.ExportingProcesses.{export_mode_named, exporting_process_faults, exporting_process_of, exporting_process_rows}
use Rattle.fx_config.specs.KeyFields.{key_element_in, key_field_faults, key_field_of, key_field_rows, prefix_check, prefix_length_in}
use Rattle.fx_config.specs.Keys.{add_field, fields_faults}
use Rattle.fx_config.specs.ObservationPoints.{direction_named, observation_point_faults, observation_point_of, observation_point_rows}
use Rattle.fx_config.specs.PropertyMatches.{property_match_faults, property_match_rows}
use Rattle.fx_config.specs.References.{aggregation_references, cache_references, collecting_references, exporting_references, point_references, process_references, reference_faults, references_among}
use Rattle.fx_config.specs.SelectionProcesses.{selection_process_faults, selection_process_of, selection_process_rows}
use Rattle.fx_config.specs.Selectors.{all_faults, inexact, selector_faults, selector_of, selector_rows}
use Rattle.fx_config.specs.declared.ipfix.Device.{Device}
use Rattle.fx_config.specs.Limits.{entry_limit, field_limit, selector_limit}
use Rattle.fx_walk.specs.Lists.{name_once}
use Rattle.fx_walk.specs.Scalars.{text_of}
use Rattle.fx_base.specs.Refusals.{file_transport, key_without_axis, total_counter}
use Rattle.fx_config.specs.GivenElements.{element_in}
use Rattle.fx_audit.proofs.ListedNumbers.{AreListed, EntriesListed, FaultsListed, both_listed, check_listed, empty_listed, entries_listed, faults_listed, if_listed, items_listed, list_row_listed, name_listed, name_once_listed, none, none_of_listed, object_listed, of_faults, one_of_listed, open_object_listed, optional_listed, references_listed, required_listed, text_listed, unknown_if_there_listed, unknown_listed, unread_listed, whole_listed, word_listed}

points_listed : EntriesListed observation_point_faults
points_listed earlier = object_listed (observation_point_rows earlier) (
  required_listed _ _ (name_once_listed earlier),
  (
    required_listed _ _ (whole_listed _ _),
    (
      entries_listed 1 entry_limit (codes "ifName") name_once text_of name_once_listed,
      (
        optional_listed _ _ (word_listed direction_named),
        (
          entries_listed 0 entry_limit (codes "selectionProcess") name_once text_of name_once_listed,
          tt,
        ),
      ),
    ),
  ),
)

matches_listed : FaultsListed property_match_faults
matches_listed = object_listed property_match_rows (
  one_of_listed (codes "ieName" ∷ codes "ieId" ∷ []),
  (
    optional_listed _ _ text_listed,
    (
      optional_listed _ _ (whole_listed _ _),
      (
        optional_listed _ _ (whole_listed _ _),
        (
          required_listed _ _ text_listed,
          (
            check_listed _ (λ up d. if_listed _ _ _ refl),
            tt,
          ),
        ),
      ),
    ),
  ),
)

selectors_listed : EntriesListed selector_faults
selectors_listed earlier = object_listed (selector_rows earlier) (
  required_listed _ _ (name_once_listed earlier),
  (
    none_of_listed inexact (refl, (refl, (refl, (refl, (refl, tt))))),
    (
      one_of_listed (codes "selectAll" ∷ codes "filterMatch" ∷ []),
      (
        optional_listed _ _ (faults_listed all_faults (λ up d. if_listed _ _ _ refl)),
        (
          optional_listed _ _ matches_listed,
          tt,
        ),
      ),
    ),
  ),
)

processes_listed : EntriesListed selection_process_faults
processes_listed earlier = object_listed (selection_process_rows earlier) (
  required_listed _ _ (name_once_listed earlier),
  (
    entries_listed 1 selector_limit (codes "selector") selector_faults (λ d. (selector_of d).name) selectors_listed,
    (
      optional_listed _ _ name_listed,
      tt,
    ),
  ),
)

elements_listed : (element : Element) (key : Bool) (up : List ℕ) → AreListed (element_faults element key up)
elements_listed element key up = both_listed (if_listed (is_total_count element) total_counter up refl)
    (if_listed (key && not (is_on_axis element)) key_without_axis up refl)

lengths_listed : (element : Element) (key : Bool) (o : Option ℕ) (up : List ℕ)
    → AreListed (length_faults element key o up)
lengths_listed element key None up = none
lengths_listed element key (Some octets) up = both_listed (if_listed _ _ _ refl) (if_listed _ _ _ refl)

cache_fields_listed : (immediate : Bool) → EntriesListed (cache_field_faults immediate)
cache_fields_listed immediate earlier = object_listed (cache_field_rows immediate earlier) (
  required_listed _ _ (name_once_listed earlier),
  (
    one_of_listed (codes "ieName" ∷ codes "ieId" ∷ []),
    (
      optional_listed _ _ text_listed,
      (
        optional_listed _ _ (whole_listed _ _),
        (
          optional_listed _ _ (whole_listed _ _),
          (
            optional_listed _ _ (whole_listed _ _),
            (
              optional_listed _ _ empty_listed,
              (
                check_listed
                    (λ up d. fields.field_check (element_in d) (is_key_in immediate d) (length_in d) up)
                    (λ up d. both_listed (elements_listed (element_in d) (is_key_in immediate d) up)
                    (lengths_listed (element_in d) (is_key_in immediate d) (length_in d) up)),
                tt,
              ),
            ),
          ),
        ),
      ),
    ),
  ),
)

layouts_listed : (immediate : Bool) → FaultsListed (cache_layout_faults immediate)
layouts_listed immediate = object_listed (cache_layout_rows immediate) (
  entries_listed 1 field_limit (codes "cacheField") (cache_field_faults immediate)
      (λ d. (cache_field_of immediate d).name) (cache_fields_listed immediate),
  (check_listed _ (λ up d. if_listed _ _ _ refl), tt),
)

settings_listed : (immediate : Bool) → FaultsListed (settings_faults immediate)
settings_listed immediate = object_listed (settings_rows immediate) (
  optional_listed _ _ (whole_listed _ _),
  (
    optional_listed _ _ (whole_listed _ _),
    (
      optional_listed _ _ (whole_listed _ _),
      (
        optional_listed _ _ (whole_listed _ _),
        (
          required_listed _ _ (layouts_listed immediate),
          tt,
        ),
      ),
    ),
  ),
)

caches_listed : EntriesListed cache_faults
caches_listed earlier = object_listed (cache_rows earlier) (
  required_listed _ _ (name_once_listed earlier),
  (
    one_of_listed (codes "immediateCache" ∷ codes "timeoutCache" ∷ codes "naturalCache" ∷ codes "permanentCache" ∷ []),
    (
      optional_listed _ _ (settings_listed true),
      (
        optional_listed _ _ (settings_listed false),
        (
          optional_listed _ _ (settings_listed false),
          (
            optional_listed _ _ (settings_listed false),
            (
              entries_listed 0 entry_limit (codes "exportingProcess") name_once text_of name_once_listed,
              tt,
            ),
          ),
        ),
      ),
    ),
  ),
)

destinations_listed : EntriesListed destination_faults
destinations_listed earlier = object_listed (destination_rows earlier) (
  required_listed _ _ (name_once_listed earlier),
  (
    none_of_listed ((codes "fileWriter", file_transport) ∷ []) (refl, tt),
    (
      one_of_listed exporters,
      (
        unread_listed _,
        tt,
      ),
    ),
  ),
)

exporters_listed : EntriesListed exporting_process_faults
exporters_listed earlier = object_listed (exporting_process_rows earlier) (
  required_listed _ _ (name_once_listed earlier),
  (
    optional_listed _ _ (word_listed export_mode_named),
    (
      entries_listed 1 entry_limit (codes "destination") destination_faults (λ d. (destination_of d).name)
          destinations_listed,
      (
        unread_listed _,
        tt,
      ),
    ),
  ),
)

prefixes_listed : (element : Element) (o : Option ℕ) (up : List ℕ) → AreListed (prefix_check element o up)
prefixes_listed element None up = if_listed _ _ _ refl
prefixes_listed element (Some bits) up = if_listed _ _ _ refl

pub key_fields_listed : FaultsListed key_field_faults
key_fields_listed = object_listed key_field_rows (
  one_of_listed (codes "ieName" ∷ codes "ieId" ∷ []),
  (
    optional_listed _ _ text_listed,
    (
      optional_listed _ _ (whole_listed _ _),
      (
        optional_listed _ _ (whole_listed _ _),
        (
          check_listed (λ up d. prefix_check (key_element_in d) (prefix_length_in d) up)
              (λ up d. prefixes_listed (key_element_in d) (prefix_length_in d) up),
          tt,
        ),
      ),
    ),
  ),
)

keys_listed : (layout : Layout) (up : List ℕ) (i : ℕ) (ds : List Data) → AreListed (fields_faults layout up i ds)
keys_listed layout up i [] = none
keys_listed layout up i (d ∷ ds) =
    both_listed (of_faults key_field_faults key_fields_listed (nth up i) d)
    (both_listed (if_listed _ _ _ refl) (keys_listed (add_field layout (key_field_of d)) up (i + 1) ds))

aggregations_listed : EntriesListed aggregation_faults
aggregations_listed earlier = object_listed (aggregation_rows earlier) (
  required_listed _ _ (name_once_listed earlier),
  (
    list_row_listed 0 field_limit (codes "key") (λ up ds. fields_faults [] up 0 ds) (λ up ds. keys_listed [] up 0 ds),
    (
      items_listed 0 entry_limit (codes "match") property_match_faults matches_listed,
      (
        entries_listed 0 entry_limit (codes "exportingProcess") name_once text_of name_once_listed,
        tt,
      ),
    ),
  ),
)

collectors_listed : EntriesListed collecting_process_faults
collectors_listed earlier = object_listed (collecting_process_rows earlier) (
  required_listed _ _ (name_once_listed earlier),
  (
    none_of_listed ((codes "fileReader", file_transport) ∷ []) (refl, tt),
    (
      unread_listed _,
      (
        entries_listed 0 entry_limit (codes "exportingProcess") name_once text_of name_once_listed,
        (
          entries_listed 0 entry_limit (codes "once-audit:aggregation") aggregation_faults
              (λ d. (aggregation_of d).name) aggregations_listed,
          tt,
        ),
      ),
    ),
  ),
)

exporting_listed : (exporters : List (List ℕ)) (up : List ℕ) (names : List (List ℕ))
    → AreListed (exporting_references exporters up names)
exporting_listed exporters up names = references_listed _ (unknown_listed exporters) up (codes "exportingProcess") names

all_references_listed : (processes caches exporters : List (List ℕ)) (up : List ℕ) (device : Device)
    → AreListed (references_among processes caches exporters up device)
all_references_listed processes caches exporters up device =
    both_listed (references_listed (point_references processes)
    (λ up point. references_listed _ (unknown_listed processes) up _ point.selection_processes) up _
    device.observation_points)
    (both_listed (references_listed (process_references caches)
    (λ up process. unknown_if_there_listed caches _ process.cache) up _ device.selection_processes)
    (both_listed (references_listed (cache_references exporters)
    (λ up cache. exporting_listed exporters up cache.exporting_processes) up _ device.caches)
    (references_listed (collecting_references exporters)
    (λ up process. both_listed (exporting_listed exporters up process.exporting_processes)
    (references_listed (aggregation_references exporters)
    (λ up aggregation. exporting_listed exporters up aggregation.exporting_processes) up _ process.aggregations)) up
    _ device.collecting_processes)))

device_references_listed : (up : List ℕ) (device : Device) → AreListed (reference_faults up device)
device_references_listed up device =
    all_references_listed (map (λ x. x.name) device.selection_processes) (map (λ x. x.name) device.caches)
    (map (λ x. x.name) device.exporting_processes) up device

ipfix_listed : FaultsListed ipfix_faults
ipfix_listed = object_listed ipfix_rows (
  entries_listed 0 entry_limit (codes "observationPoint") observation_point_faults (λ d. (observation_point_of d).name)
      points_listed,
  (
    entries_listed 0 entry_limit (codes "selectionProcess") selection_process_faults
        (λ d. (selection_process_of d).name) processes_listed,
    (
      entries_listed 0 entry_limit (codes "cache") cache_faults (λ d. (cache_of d).name) caches_listed,
      (
        entries_listed 0 entry_limit (codes "exportingProcess") exporting_process_faults
            (λ d. (exporting_process_of d).name) exporters_listed,
        (
          entries_listed 0 entry_limit (codes "collectingProcess") collecting_process_faults
              (λ d. (collecting_process_of d).name) collectors_listed,
          (
            check_listed (λ up d. reference_faults up (lists_of d)) (λ up d. device_references_listed up (lists_of d)),
            tt,
          ),
        ),
      ),
    ),
  ),
)

pub devices_listed : FaultsListed device_faults
unfolding device_faults
devices_listed = faults_listed device_faults
    (of_faults _ (open_object_listed (codes "ietf-ipfix-psamp") device_rows (required_listed _ _ ipfix_listed, tt)))
