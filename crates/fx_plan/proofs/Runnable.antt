-- The network that a document without a fault means is runnable.
use Rattle.std.proofs.Common.{◌≡◌, ℕ, zero, suc, ◌+◌, ◌<◌, ◌≤◌, List, [], ◌∷◌, ◌++◌, length, map, get_or, All, Bool, true, false, Option, Some, None, IfSome, option_map, slice_get, refl, sym, ap, ◌∙◌, subst, arith, position, append_assoc}
use Rattle.std.specs.Option.{option_and_then}
use Rattle.std.specs.Str.{bytes_eq}
use Rattle.std.proofs.lemmas.Bool.{cond_both}
use Rattle.std.proofs.lemmas.Grind.{flat_map-append}
use Rattle.std.proofs.lemmas.List.{length-append, length-map, map-append}
use Rattle.std.proofs.lemmas.List.Elements.{All-nil, All-cons, All-head, All-tail, All-append, All-map, All-weaker}
use Rattle.std.proofs.lemmas.List.Folds.{list_any_at}
use Rattle.std.proofs.lemmas.List.Quantifiers.{position-Some}
use Rattle.std.proofs.lemmas.Option.{slice_get-get_or, slice_get-map}
use Rattle.std.proofs.lemmas.Simd.{map-map}
use Rattle.std.proofs.lemmas.Slice.Eq.{bytes_eq-Decides}
use Rattle.serde_json.specs.Data.{Data, null}
use Rattle.fx_tables.specs.Network as machine
use Rattle.fx_tables.specs.declared.holder_name.HolderName.TheVariants as names
use Rattle.fx_tables.specs.Runnable.{HasAggregations, HasCaches, HasDestinations, IsHolder, IsRunnable}
use Rattle.fx_walk.specs.Lists.{is_among}
use Rattle.fx_walk.specs.KnownNames.{IsKnown}
use Rattle.fx_config.specs.declared.aggregation.Aggregation.{Aggregation}
use Rattle.fx_config.specs.declared.cache.Cache.{Cache}
use Rattle.fx_config.specs.declared.collecting_process.CollectingProcess.{CollectingProcess}
use Rattle.fx_config.specs.declared.destination.Destination.{Destination}
use Rattle.fx_config.specs.declared.exporting_process.ExportingProcess.{ExportingProcess}
use Rattle.fx_config.specs.declared.selection_process.SelectionProcess.{SelectionProcess}
use Rattle.fx_topology.specs.declared.link.NamedLink.{NamedLink}
use Rattle.fx_topology.specs.declared.network.NetworkDocument.{NetworkDocument}
use Rattle.fx_topology.specs.declared.network_device.NetworkDevice.{NetworkDevice}
use Rattle.fx_plan.specs.Labels.{Label, cache_labels, collecting_labels, device_labels, exporting_labels, place}
use Rattle.fx_topology.specs.Links.{link_of, leads_from}
use Rattle.fx_topology.specs.Networks.{devices_of, network_faults, network_of}
use Rattle.fx_plan.specs.Tables.{aggregations_from, aggregation_holder, aggregation_holders, cache_holder, cache_holders, exporter_of, exporters_of, held_by, net_of, point_of, process_from, process_named, processes_from, processes_in, selection_of, table_of}
use Rattle.fx_plan.proofs.FaultlessNetworks.{AllNew, HasDestination, IsFaultless, devices_faultless}
use Rattle.fx_plan.proofs.Numberings.{next_at}
use Rattle.fx_plan.proofs.PlacesOfThings.{cache_within, place_known, process_place}
use Rattle.fx_plan.proofs.Resolution.{label_of, so_many_from}

-- ---- destinations

link_within : (links : List NamedLink) (p : NamedLink → Bool) (o : Option ℕ) → position p links ≡ o
    → IfSome o (λ link. link < length links)
link_within links p None e = tt
link_within links p (Some k) e = (position-Some p links k (link_of null) e).0

has_destinations : (network : NetworkDocument) (device : List ℕ) (process : ExportingProcess) → HasDestination process
    → HasDestinations (net_of network) (exporter_of network.links device process)
unfolding net_of
has_destinations network device process some =
    let net = net_of network in
    let leads : Destination → Option ℕ = λ d. position (leads_from device process.name d.name) network.links in
    let long : length net.links ≡ length network.links = length-map network.links _ in
    record {
      links = All-map (λ (d : Option ℕ). IfSome d (λ link. link < length net.links)) leads process.destinations
          (λ k d low.
          subst (λ n. IfSome (leads (get_or process.destinations k d)) (λ link. link < n)) (sym long)
          (link_within network.links (leads_from device process.name (get_or process.destinations k d).name)
          (leads (get_or process.destinations k d)) refl));
      some = λ _. subst (λ n. 0 < n) (sym (length-map process.destinations leads)) some;
    }

all_destinations : (network : NetworkDocument) (devices : List NetworkDevice) → All (λ x. IsFaultless x.config) devices
    → All (HasDestinations (net_of network)) (exporters_of network.links devices)
all_destinations network [] faultless = All-nil _
all_destinations network (x ∷ xs) faultless =
    All-append (HasDestinations (net_of network)) (map (exporter_of network.links x.name) x.config.exporting_processes)
    (exporters_of network.links xs)
    (All-map (HasDestinations (net_of network)) (exporter_of network.links x.name) x.config.exporting_processes
    (All-weaker HasDestination (λ process. HasDestinations (net_of network)
    (exporter_of network.links x.name process)) (has_destinations network x.name) x.config.exporting_processes
    (All-head (λ x. IsFaultless x.config) x xs faultless).destinations))
    (all_destinations network xs (All-tail (λ x. IsFaultless x.config) x xs faultless))

-- ---- devices, each behind others

device_at : (network : NetworkDocument) (front xs : List NetworkDevice) (x : NetworkDevice) → network.devices ≡ front
    ++ x ∷ xs → slice_get (net_of network).devices (length front)
    ≡ Some (table_of (cache_labels network.devices) (collecting_labels network.devices) x)
unfolding net_of
device_at network front xs x are =
    let table = table_of (cache_labels network.devices) (collecting_labels network.devices) in
    slice_get-map table network.devices (length front)
    ∙ ap (option_map table) (ap (λ (l : List NetworkDevice). slice_get l (length front)) are ∙ next_at front x xs)

-- ---- caches, which selection processes name

so_many_caches : (exporting : List Label) (devices : List NetworkDevice) → length (cache_labels devices)
    ≡ length (cache_holders exporting devices)
so_many_caches exporting [] = refl
so_many_caches exporting (x ∷ xs) =
    let label : Cache → Label = λ c. record { device = x.name; name = c.name } in
    let here : length (map label x.config.caches) ≡ length (map (cache_holder exporting x.name) x.config.caches) =
    length-map x.config.caches label ∙ sym (length-map x.config.caches (cache_holder exporting x.name)) in
    length-append (map label x.config.caches) (cache_labels xs)
    ∙ (rw (here, so_many_caches exporting xs) refl
    ∙ sym (length-append (map (cache_holder exporting x.name) x.config.caches) (cache_holders exporting xs)))

cache_there : (network : NetworkDocument) (front xs : List NetworkDevice) (x : NetworkDevice) → network.devices ≡ front
    ++ x ∷ xs → (name : List ℕ) → is_among (map (λ c. c.name) x.config.caches) name ≡ true
    → place (cache_labels network.devices) x.name name < length (net_of network).holders
unfolding net_of
cache_there network front xs x are name among =
    let exporting = exporting_labels network.devices in
    let low : place (cache_labels network.devices) x.name name < length (cache_labels network.devices) =
    rw are (cache_within front xs x name among) in
    let long = length-append (cache_holders exporting network.devices) (aggregation_holders exporting network.devices)
    in
    omega (arith, low, long, so_many_caches exporting network.devices)

cache_is_holder : (network : NetworkDocument) (front xs : List NetworkDevice) (x : NetworkDevice) → network.devices
    ≡ front ++ x ∷ xs → (name : List ℕ) → IsKnown (map (λ c. c.name) x.config.caches) name
    → IsHolder (net_of network) (place (cache_labels network.devices) x.name name)
cache_is_holder network front xs x are name known =
    let labels = cache_labels network.devices in
    let named : List (List ℕ) = map (λ c. c.name) x.config.caches in
    let at = place_known named name known in
    let among = list_any_at (λ n. bytes_eq n name) named at.0 [] at.1
    ((bytes_eq-Decides (get_or named at.0 []) name).1 at.2) in
    let placed : List ℕ → ℕ = λ n. place labels x.name n in
    record {
      name = names.Cache (suc (length front)) (suc at.0);
      named =
          ap (λ o. slice_get (machine.caches_of o) at.0) (device_at network front xs x are)
          ∙ (ap (λ l. slice_get l at.0) (sym (map-map placed (λ (c : Cache). c.name) x.config.caches))
          ∙ (slice_get-map placed named at.0
          ∙ ap (option_map placed) (slice_get-get_or named at.0 [] at.1 ∙ ap (λ n. Some n) at.2)));
      there = cache_there network front xs x are name among;
    }

-- what all selection processes have, one of this name has
process_has : (P : SelectionProcess → Type 0) (processes : List SelectionProcess) (name : List ℕ) → All P processes
    → IfSome (process_named processes name) P
process_has P [] name all = tt
process_has P (p ∷ ps) name all =
    cond_both (bytes_eq p.name name) (Some p) (process_named ps name) (λ (o : Option SelectionProcess). IfSome o P)
    (λ _. All-head P p ps all) (λ _. process_has P ps name (All-tail P p ps all))

mapped_has : {X Y : Type 0} (P : X → Type 0) (Q : Y → Type 0) (f : X → Y) → ((x : X) → P x → Q (f x)) → (o : Option X)
    → IfSome o P → IfSome (option_map f o) Q
mapped_has P Q f each None h = tt
mapped_has P Q f each (Some x) h = each x h

cache_has : (P : List ℕ → Type 0) (o : Option SelectionProcess) → IfSome o (λ p. IfSome p.cache P)
    → IfSome (option_and_then (λ p. p.cache) o) P
cache_has P None h = tt
cache_has P (Some p) h = h

has_caches : (network : NetworkDocument) (front xs : List NetworkDevice) (x : NetworkDevice) → network.devices ≡ front
    ++ x ∷ xs → IsFaultless x.config → HasCaches (net_of network)
    (table_of (cache_labels network.devices) (collecting_labels network.devices) x)
has_caches network front xs x are faultless =
    let net = net_of network in
    let caches = cache_labels network.devices in
    let known : List ℕ → Type 0 = IsKnown (map (λ c. c.name) x.config.caches) in
    let has : (name : List ℕ) → IfSome (selection_of caches x name).holder (IsHolder net) = λ name.
    mapped_has known (IsHolder net) (place caches x.name) (cache_is_holder network front xs x are)
    (option_and_then (λ p. p.cache) (process_named x.config.selection_processes name))
    (cache_has known (process_named x.config.selection_processes name)
    (process_has (λ p. IfSome p.cache known) x.config.selection_processes name faultless.resolves.processes)) in
    All-map (λ (p : machine.Point). All (λ s. IfSome s.holder (IsHolder net)) p.selections) (point_of caches x)
    x.config.observation_points (λ k d low.
    All-map (λ s. IfSome s.holder (IsHolder net)) (selection_of caches x)
    (get_or x.config.observation_points k d).selection_processes
    (λ j name _. has (get_or (get_or x.config.observation_points k d).selection_processes j name)))

all_caches : (network : NetworkDocument) (front rest : List NetworkDevice) → network.devices ≡ front ++ rest
    → All (λ x. IsFaultless x.config) rest → All (HasCaches (net_of network))
    (map (table_of (cache_labels network.devices) (collecting_labels network.devices)) rest)
all_caches network front [] are faultless = All-nil _
all_caches network front (x ∷ xs) are faultless =
    All-cons (HasCaches (net_of network)) (table_of (cache_labels network.devices) (collecting_labels network.devices)
    x) (map (table_of (cache_labels network.devices) (collecting_labels network.devices)) xs)
    (has_caches network front xs x are (All-head (λ x. IsFaultless x.config) x xs faultless))
    (all_caches network (front ++ x ∷ []) xs (are ∙ sym (append_assoc front (x ∷ []) xs))
    (All-tail (λ x. IsFaultless x.config) x xs faultless))

-- ---- aggregations, each held behind those of the processes before its own

so_many_aggregations : (holder : ℕ) (aggregations : List Aggregation) → length (aggregations_from holder aggregations)
    ≡ length aggregations
so_many_aggregations holder [] = refl
so_many_aggregations holder (a ∷ rest) = ap suc (so_many_aggregations (holder + 1) rest)

held_from : (holder : ℕ) (aggregations : List Aggregation) (k : ℕ) (d : machine.AggregationEntry) → k
    < length (aggregations_from holder aggregations) → (get_or (aggregations_from holder aggregations) k d).holder
    ≡ holder + k
held_from holder [] k d low = absurd (omega arith)
held_from holder (a ∷ rest) zero d low = omega arith
held_from holder (a ∷ rest) (suc k) d low = held_from (holder + 1) rest k d (omega arith) ∙ omega arith

has_aggregations : (network : NetworkDocument) (front xs : List NetworkDevice) (x : NetworkDevice)
    (early late : List CollectingProcess) (p : CollectingProcess) (done after : List machine.Process) (holder : ℕ)
    → network.devices ≡ front ++ x ∷ xs → x.config.collecting_processes ≡ early ++ p ∷ late
    → is_among (map (λ x. x.name) front) x.name ≡ false → is_among (map (λ p. p.name) early) p.name ≡ false
    → (net_of network).processes ≡ done ++ process_from (exporting_labels network.devices) x.name holder p ∷ after
    → length done ≡ length (collecting_labels front) + length early → holder + length p.aggregations
    ≤ length (net_of network).holders
    → HasAggregations (net_of network) (process_from (exporting_labels network.devices) x.name holder p)
has_aggregations network front xs x early late p done after holder are processes new_device new_name all long fits k d
    low =
    let net = net_of network in
    let this = process_from (exporting_labels network.devices) x.name holder p in
    let placed : CollectingProcess → ℕ = λ p. place (collecting_labels network.devices) x.name p.name in
    let here : slice_get (map placed x.config.collecting_processes) (length early) ≡ Some (placed p) =
    slice_get-map placed x.config.collecting_processes (length early)
    ∙ ap (option_map placed) (ap (λ (l : List CollectingProcess). slice_get l (length early)) processes
    ∙ next_at early p late) in
    let is : placed p ≡ length done = ap (λ (l : List NetworkDevice). place (collecting_labels l) x.name p.name) are
    ∙ (process_place front xs x early late p processes new_device new_name ∙ sym long) in
    let found : machine.process_at net.processes
    (slice_get (machine.processes_of (slice_get net.devices (length front))) (length early)) ≡ Some this =
    ap (λ o. machine.process_at net.processes (slice_get (machine.processes_of o) (length early)))
    (device_at network front xs x are)
    ∙ (ap (machine.process_at net.processes) here
    ∙ (ap (slice_get net.processes) is
    ∙ (ap (λ (l : List machine.Process). slice_get l (length done)) all ∙ next_at done this after))) in
    let held = held_from holder p.aggregations k d low in
    record {
      name = names.Aggregation (suc (length front)) (suc (length early)) (suc k);
      named = ap (λ o. machine.held_at (slice_get (machine.aggregations_of o) k)) found
          ∙ ap machine.held_at (slice_get-get_or this.aggregations k d low);
      there = omega (arith, held, low, fits, so_many_aggregations holder p.aggregations);
    }

processes_have : (network : NetworkDocument) (front xs : List NetworkDevice) (x : NetworkDevice)
    (early late : List CollectingProcess) (done after : List machine.Process) (holder : ℕ)
    → network.devices ≡ front ++ x ∷ xs → x.config.collecting_processes ≡ early ++ late
    → is_among (map (λ x. x.name) front) x.name ≡ false → AllNew (map (λ p. p.name) early) (map (λ p. p.name) late)
    → (net_of network).processes ≡ done ++ (processes_from (exporting_labels network.devices) x.name holder late
    ++ after) → length done ≡ length (collecting_labels front) + length early → holder
    + length (held_by (exporting_labels network.devices) x.name late) ≤ length (net_of network).holders
    → All (HasAggregations (net_of network)) (processes_from (exporting_labels network.devices) x.name holder late)
processes_have network front xs x early [] done after holder are processes new_device new all long fits = All-nil _
processes_have network front xs x early (p ∷ ps) done after holder are processes new_device new all long fits =
    let exporting = exporting_labels network.devices in
    let name : CollectingProcess → List ℕ = λ p. p.name in
    let this = process_from exporting x.name holder p in
    let rest = processes_from exporting x.name (holder + length p.aggregations) ps in
    let held : length (held_by exporting x.name (p ∷ ps)) ≡ length p.aggregations
    + length (held_by exporting x.name ps) =
    length-append (map (aggregation_holder exporting x.name) p.aggregations) (held_by exporting x.name ps)
    ∙ ap (λ n. n + length (held_by exporting x.name ps))
    (length-map p.aggregations (aggregation_holder exporting x.name)) in
    All-cons (HasAggregations (net_of network)) this rest
    (has_aggregations network front xs x early ps p done (rest ++ after) holder are processes new_device new.0 all long
    (omega (arith, held, fits)))
    (processes_have network front xs x (early ++ p ∷ []) ps (done ++ this ∷ []) after (holder + length p.aggregations)
    are (processes ∙ sym (append_assoc early (p ∷ []) ps)) new_device
    (subst (λ (ns : List (List ℕ)). AllNew ns (map name ps)) (sym (map-append name early (p ∷ []))) new.1)
    (all ∙ sym (append_assoc done (this ∷ []) (rest ++ after)))
    (omega (arith, long, length-append done (this ∷ []), length-append early (p ∷ [])))
    (omega (arith, held, fits)))

all_aggregations : (network : NetworkDocument) (front rest : List NetworkDevice) (done : List machine.Process)
    (holder : ℕ)
    → network.devices ≡ front ++ rest → AllNew (map (λ x. x.name) front) (map (λ x. x.name) rest)
    → All (λ x. IsFaultless x.config) rest
    → (net_of network).processes ≡ done ++ processes_in (exporting_labels network.devices) holder rest → length done
    ≡ length (collecting_labels front) → holder
    + length (aggregation_holders (exporting_labels network.devices) rest) ≤ length (net_of network).holders
    → All (HasAggregations (net_of network)) (processes_in (exporting_labels network.devices) holder rest)
all_aggregations network front [] done holder are new faultless all long fits = All-nil _
all_aggregations network front (x ∷ xs) done holder are new faultless all long fits =
    let exporting = exporting_labels network.devices in
    let name : NetworkDevice → List ℕ = λ x. x.name in
    let labels_of : NetworkDevice → List Label =
    λ x. device_labels (λ (p : CollectingProcess). p.name) x.name x.config.collecting_processes in
    let processes = x.config.collecting_processes in
    let held = held_by exporting x.name processes in
    let here = processes_from exporting x.name holder processes in
    let later = processes_in exporting (holder + length held) xs in
    let holders : length (aggregation_holders exporting (x ∷ xs)) ≡ length held
    + length (aggregation_holders exporting xs) = length-append held (aggregation_holders exporting xs) in
    let labels : length (collecting_labels (front ++ x ∷ [])) ≡ length (collecting_labels front) + length processes =
    ap length (flat_map-append labels_of front (x ∷ []))
    ∙ (let both = length-append (collecting_labels front) (labels_of x ++ []) in
    let one = length-append (labels_of x) [] in
    let named = length-map processes (label_of x.name) in
    omega (arith, both, one, named)) in
    All-append (HasAggregations (net_of network)) here later
    (processes_have network front xs x [] processes done later holder are refl new.0
    (All-head (λ x. IsFaultless x.config) x xs faultless).names all (omega (arith, long))
    (omega (arith, holders, fits)))
    (all_aggregations network (front ++ x ∷ []) xs (done ++ here) (holder + length held)
    (are ∙ sym (append_assoc front (x ∷ []) xs))
    (subst (λ (ns : List (List ℕ)). AllNew ns (map name xs)) (sym (map-append name front (x ∷ []))) new.1)
    (All-tail (λ x. IsFaultless x.config) x xs faultless)
    (all ∙ sym (append_assoc done here later))
    (omega (arith, long, labels, length-append done here, so_many_from exporting x.name holder processes))
    (omega (arith, holders, fits)))

-- ---- the network

pub runnable : (d : Data) → network_faults [] d ≡ [] → IsRunnable (net_of (network_of d))
unfolding net_of
runnable d h =
    let network = network_of d in
    let devices = devices_of d in
    let exporting = exporting_labels (devices_of d) in
    let are = devices_faultless d h in
    let caches = cache_holders exporting (devices_of d) in
    let long = length-append (cache_holders exporting (devices_of d)) (aggregation_holders exporting (devices_of d)) in
    record {
      destinations = all_destinations network devices are.faultless;
      aggregations = all_aggregations network [] devices [] (length caches) refl are.names are.faultless refl refl
          (omega (arith, long));
      caches = all_caches network [] devices refl are.faultless;
    }
