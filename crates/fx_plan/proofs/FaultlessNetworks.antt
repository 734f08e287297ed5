-- What a network document without a fault has: names that differ, destinations, and things for all names that stand for
-- one.
use Rattle.std.proofs.Common.{◌≡◌, ℕ, ◌+◌, ◌<◌, List, [], ◌∷◌, ◌++◌, length, map, All, Bool, true, false, cond, drop, Option, Some, None, refl, sym, codes, nat_lt, arith, subst, inl, inr}
use Rattle.std.specs.Bool.{⊤}
use Rattle.std.specs.Option.{unwrap_or}
use Rattle.std.proofs.lemmas.Bool.{ltb-false}
use Rattle.std.proofs.lemmas.List.{length-map}
use Rattle.std.proofs.lemmas.List.Elements.{All-nil, All-cons}
use Rattle.serde_json.specs.Data.{Data, null}
use Rattle.serde_json.specs.Find.{get, as_object}
use Rattle.fx_base.specs.Name.{is_name}
use Rattle.fx_elements.proofs.Cuts.{chosen}
use Rattle.fx_walk.specs.Pointer.{below, nth}
use Rattle.fx_walk.specs.Walk.{FoundFault, Row, fault_if, row_faults, of_kind, object_faults, required_row, faults_or_missing, member_of}
use Rattle.fx_walk.specs.Lists.{by_length, entries_faults, faults_of_list, is_among, items_in, items_of, name_once}
use Rattle.fx_walk.specs.Scalars.{text_of, text_that}
use Rattle.fx_config.specs.CollectingProcesses.{collecting_process_faults, collecting_process_of, collecting_process_rows}
use Rattle.fx_config.specs.Destinations.{destination_faults, destination_of}
use Rattle.fx_config.specs.Devices.{device_faults, device_of, device_rows, ipfix_faults, ipfix_rows, lists_of}
use Rattle.fx_config.specs.ExportingProcesses.{exporting_process_faults, exporting_process_of, exporting_process_rows}
use Rattle.fx_config.specs.Limits.{entry_limit}
use Rattle.fx_config.specs.References.{Resolves}
use Rattle.fx_config.specs.declared.exporting_process.ExportingProcess.{ExportingProcess}
use Rattle.fx_config.specs.declared.ipfix.Device.{Device}
use Rattle.fx_walk.proofs.Faults.{none_before, none_behind}
use Rattle.fx_config.proofs.NamesResolve.{device_resolves}
use Rattle.fx_topology.specs.Limits.{device_limit}
use Rattle.fx_topology.specs.declared.network_device.NetworkDevice.{NetworkDevice}
use Rattle.fx_topology.specs.NetworkDevices.{network_device_faults, network_device_of, network_device_rows}
use Rattle.fx_topology.specs.Networks.{devices_of, network_faults, network_rows}
use Rattle.fx_plan.proofs.Resolution.{kind_none, list_none, rows_behind, rows_none}

-- no name is among those that come before it
abbrev pub AllNew : List (List ℕ) → List (List ℕ) → Type 0
AllNew earlier [] = ⊤
AllNew earlier (name ∷ names) = (is_among earlier name ≡ false) × AllNew (earlier ++ name ∷ []) names

-- ---- lists without a fault

no_fault : (b : Bool) (n : ℕ) (up : List ℕ) → fault_if b n up ≡ [] → b ≡ false
no_fault true n up h = absurd cc
no_fault false n up h = refl

-- what each entry has that has no fault behind others, all entries have
entries_have : {X : Type 0} (faults : List (List ℕ) → List ℕ → Data → List FoundFault) (name : Data → List ℕ)
    (meaning : Data → X) (P : X → Type 0)
    → ((earlier : List (List ℕ)) (up : List ℕ) (d : Data) → faults earlier up d ≡ [] → P (meaning d))
    → (earlier : List (List ℕ)) (up : List ℕ) (i : ℕ) (ds : List Data) → entries_faults faults name earlier up i ds ≡ []
    → All P (map meaning ds)
entries_have faults name meaning P each earlier up i [] h = All-nil P
entries_have faults name meaning P each earlier up i (d ∷ ds) h =
    All-cons P (meaning d) (map meaning ds)
    (each earlier (nth up i) d (none_before (faults earlier (nth up i) d)
    (entries_faults faults name (earlier ++ name d ∷ []) up (i + 1) ds) h))
    (entries_have faults name meaning P each (earlier ++ name d ∷ []) up (i + 1) ds
    (none_behind (faults earlier (nth up i) d) (entries_faults faults name (earlier ++ name d ∷ []) up (i + 1) ds)
    h))

entries_new : {X : Type 0} (faults : List (List ℕ) → List ℕ → Data → List FoundFault) (meaning : Data → X)
    (name : X → List ℕ)
    → ((earlier : List (List ℕ)) (up : List ℕ) (d : Data) → faults earlier up d ≡ []
    → is_among earlier (name (meaning d)) ≡ false)
    → (earlier : List (List ℕ)) (up : List ℕ) (i : ℕ) (ds : List Data)
    → entries_faults faults (λ d. name (meaning d)) earlier up i ds ≡ []
    → AllNew earlier (map name (map meaning ds))
entries_new faults meaning name each earlier up i [] h = tt
entries_new faults meaning name each earlier up i (d ∷ ds) h =
    let more = earlier ++ name (meaning d) ∷ [] in (
      each earlier (nth up i) d (none_before (faults earlier (nth up i) d)
          (entries_faults faults (λ d. name (meaning d)) more up (i + 1) ds) h),
      entries_new faults meaning name each more up (i + 1) ds
          (none_behind (faults earlier (nth up i) d) (entries_faults faults (λ d. name (meaning d)) more up (i + 1) ds)
          h),
    )

-- the entries of a list that may be empty
entries_in : (most : ℕ) (faults : List (List ℕ) → List ℕ → Data → List FoundFault) (name : Data → List ℕ)
    (up key : List ℕ) (o : Option Data)
    → faults_of_list 0 most (λ up ds. entries_faults faults name [] up 0 ds) up key o ≡ []
    → entries_faults faults name [] (below up key) 0 (items_of (unwrap_or o null)) ≡ []
entries_in most faults name up key None h = refl
entries_in most faults name up key (Some d) h =
    kind_none 0 most (λ up ds. entries_faults faults name [] up 0 ds) (below up key) (items_in d) h

-- a list that may not be empty isn't
some_in : (most : ℕ) (up : List ℕ) (n : ℕ) (rest : List FoundFault) → by_length 103 115 1 most up n rest ≡ [] → 0 < n
some_in most up n rest h =
    elim (chosen (nat_lt most n) ((115, up) ∷ []) (cond (nat_lt n 1) ((103, up) ∷ []) rest) [] h) [
      | inl w ↦ absurd cc
      | inr w ↦ elim (chosen (nat_lt n 1) ((103, up) ∷ []) rest [] w.1)
          [ inl v ↦ absurd cc | inr v ↦ (let le = ltb-false n 1 v.0 in omega arith) ]
    ]

some_of_kind : (most : ℕ) (faults : List ℕ → List Data → List FoundFault) (up : List ℕ) (o : Option (List Data))
    → of_kind o (λ ds. by_length 103 115 1 most up (length ds) (faults up ds)) up ≡ [] → 0 < length (unwrap_or o [])
some_of_kind most faults up None h = absurd cc
some_of_kind most faults up (Some ds) h = some_in most up (length ds) (faults up ds) h

some_items : (most : ℕ) (faults : List ℕ → List Data → List FoundFault) (up key : List ℕ) (o : Option Data)
    → faults_of_list 1 most faults up key o ≡ [] → 0 < length (items_of (unwrap_or o null))
some_items most faults up key None h = absurd cc
some_items most faults up key (Some d) h = some_of_kind most faults (below up key) (items_in d) h

-- ---- names

named_new : (earlier : List (List ℕ)) (up key : List ℕ) (o : Option Data)
    → faults_or_missing (name_once earlier) up key o ≡ [] → is_among earlier (text_of (unwrap_or o null)) ≡ false
named_new earlier up key None h = absurd cc
named_new earlier up key (Some d) h =
    no_fault (is_among earlier (text_of d)) 106 (below up key)
    (none_behind (text_that 105 is_name (below up key) d)
    (fault_if (is_among earlier (text_of d)) 106 (below up key)) h)

-- objects whose first member is a name that may stand once
name_new : (earlier : List (List ℕ)) (rows : List Row) (up : List ℕ) (d : Data)
    → object_faults (required_row (codes "name") (name_once earlier) ∷ rows) up d ≡ []
    → is_among earlier (text_of (member_of (codes "name") d)) ≡ false
name_new earlier rows up d h =
    named_new earlier up (codes "name") (get (codes "name") d)
    (none_before _ (row_faults rows up d) (rows_none _ (required_row (codes "name") (name_once earlier) ∷ rows) up d
    (as_object d) h))

-- ---- devices

abbrev pub HasDestination : ExportingProcess → Type 0
HasDestination process = 0 < length process.destinations

exporting_has : (earlier : List (List ℕ)) (up : List ℕ) (d : Data) → exporting_process_faults earlier up d ≡ []
    → HasDestination (exporting_process_of d)
exporting_has earlier up d h =
    let rows = rows_none _ (exporting_process_rows earlier) up d (as_object d) h in
    let row = none_before _ _ (rows_behind 2 (exporting_process_rows earlier) up d rows) in
    let some = some_items entry_limit (λ up ds. entries_faults destination_faults (λ d. (destination_of d).name) [] up 0
    ds) up (codes "destination") (get (codes "destination") d) row in
    subst (λ n. 0 < n) (sym (length-map (items_of (member_of (codes "destination") d)) destination_of)) some

-- Its collecting processes have names that differ, each exporting process has a destination, and each name that stands
-- for a thing of the device is that of one.
pub record IsFaultless (device : Device) : Type 0 where
  pub names : AllNew [] (map (λ p. p.name) device.collecting_processes)
  pub destinations : All HasDestination device.exporting_processes
  pub resolves : Resolves device

ipfix_faultless : (up : List ℕ) (d : Data) → ipfix_faults up d ≡ [] → Resolves (lists_of d) → IsFaultless (lists_of d)
ipfix_faultless up d h resolves =
    let rows = rows_none _ ipfix_rows up d (as_object d) h in
    let exporting = none_before _ _ (rows_behind 3 ipfix_rows up d rows) in
    let collecting = none_before _ _ (rows_behind 4 ipfix_rows up d rows) in
    record {
      names =
          entries_new collecting_process_faults collecting_process_of (λ p. p.name)
          (λ earlier up d none. name_new earlier (drop 1 (collecting_process_rows earlier)) up d none)
          [] (below up (codes "collectingProcess")) 0 (items_of (member_of (codes "collectingProcess") d))
          (entries_in entry_limit collecting_process_faults (λ d. (collecting_process_of d).name) up
          (codes "collectingProcess") (get (codes "collectingProcess") d) collecting);
      destinations =
          entries_have exporting_process_faults (λ d. (exporting_process_of d).name) exporting_process_of HasDestination
          exporting_has
          [] (below up (codes "exportingProcess")) 0 (items_of (member_of (codes "exportingProcess") d))
          (entries_in entry_limit exporting_process_faults (λ d. (exporting_process_of d).name) up
          (codes "exportingProcess") (get (codes "exportingProcess") d) exporting);
      resolves = resolves;
    }

there : (up name : List ℕ) (o : Option Data) → faults_or_missing ipfix_faults up name o ≡ []
    → Resolves (lists_of (unwrap_or o null)) → IsFaultless (lists_of (unwrap_or o null))
there up name None h resolves = absurd cc
there up name (Some e) h resolves = ipfix_faultless (below up name) e h resolves

device_faultless : (up : List ℕ) (d : Data) → device_faults up d ≡ [] → Resolves (device_of d)
    → IsFaultless (device_of d)
unfolding device_faults device_of
device_faultless up d h resolves =
    there up (codes "ietf-ipfix-psamp:ipfix") (get (codes "ietf-ipfix-psamp:ipfix") d)
    (none_before _ [] (rows_none _ device_rows up d (as_object d) h)) resolves

config_faultless : (up name : List ℕ) (o : Option Data) → faults_or_missing device_faults up name o ≡ []
    → IsFaultless (device_of (unwrap_or o null))
config_faultless up name None h = absurd cc
config_faultless up name (Some d) h = device_faultless (below up name) d h (device_resolves (below up name) d h)

-- ---- networks

network_device_faultless : (earlier : List (List ℕ)) (up : List ℕ) (d : Data) → network_device_faults earlier up d ≡ []
    → IsFaultless (network_device_of d).config
network_device_faultless earlier up d h =
    let rows = rows_none _ (network_device_rows earlier) up d (as_object d) h in
    config_faultless up (codes "config") (get (codes "config") d)
    (none_before _ _ (rows_behind 1 (network_device_rows earlier) up d rows))

-- the names of the devices differ too
pub record AreFaultless (devices : List NetworkDevice) : Type 0 where
  pub names : AllNew [] (map (λ x. x.name) devices)
  pub faultless : All (λ x. IsFaultless x.config) devices

pub devices_faultless : (d : Data) → network_faults [] d ≡ [] → AreFaultless (devices_of d)
devices_faultless d h =
    let rows = rows_none _ (network_rows (devices_of d)) [] d (as_object d) h in
    let name : Data → List ℕ = λ d. (network_device_of d).name in
    let items = items_of (member_of (codes "devices") d) in
    let entries = list_none 0 device_limit (λ up ds. entries_faults network_device_faults
    (λ d. (network_device_of d).name) [] up 0 ds) [] (codes "devices") (get (codes "devices") d)
    (none_before _ _ rows) in
    record {
      names = entries_new network_device_faults network_device_of (λ x. x.name)
          (λ earlier up d none. name_new earlier (drop 1 (network_device_rows earlier)) up d none) []
          (below [] (codes "devices")) 0 items entries;
      faultless = entries_have network_device_faults name network_device_of (λ x. IsFaultless x.config)
          network_device_faultless [] (below [] (codes "devices")) 0 items entries;
    }
