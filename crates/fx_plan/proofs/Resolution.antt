-- In a network without a fault links lead to collecting processes that are there, and so does the report.
use Rattle.std.proofs.Common.{◌≡◌, ℕ, zero, suc, ◌+◌, ◌<◌, List, [], ◌∷◌, ◌++◌, length, map, Bool, true, false, not, ◌&&◌, ◌||◌, cond, Option, Some, None, refl, sym, ap, ◌∙◌, subst, arith, drop, codes, nat_lt, slice_get, inl, inr}
use Rattle.std.specs.List.{list_any, position_or_len}
use Rattle.std.specs.Option.{unwrap_or}
use Rattle.std.specs.Str.{bytes_eq}
use Rattle.std.proofs.lemmas.Bool.{cases_Bool, and_parts, and_from, or_cases, cond-true, cond-false, or_left, or_right}
use Rattle.std.proofs.lemmas.List.{length-append, length-map}
use Rattle.std.proofs.lemmas.List.Folds.{list_any-append}
use Rattle.serde_json.specs.Data.{Data, null, Members}
use Rattle.serde_json.specs.Find.{get, as_object}
use Rattle.fx_elements.proofs.Cuts.{chosen}
use Rattle.fx_walk.specs.Pointer.{below, nth}
use Rattle.fx_walk.specs.Walk.{FoundFault, Row, fault_if, row_faults, of_kind, others, faults_or_missing, member_of, is_listed, listed_in}
use Rattle.fx_walk.specs.Lists.{by_length, is_among, items_in, items_of, list_faults}
use Rattle.fx_config.specs.declared.collecting_process.CollectingProcess.{CollectingProcess}
use Rattle.fx_config.specs.declared.ipfix.Device.{Device}
use Rattle.fx_walk.proofs.Faults.{none_before, none_behind}
use Rattle.fx_topology.specs.Limits.{link_limit}
use Rattle.fx_topology.specs.declared.link.NamedLink.{NamedLink}
use Rattle.fx_topology.specs.declared.network_device.NetworkDevice.{NetworkDevice}
use Rattle.fx_plan.specs.Labels.{Label, collecting_labels, exporting_labels, device_labels, is_label, place}
use Rattle.fx_topology.specs.Links.{device_named, has_collecting_process, has_ends, has_destination, link_faults, link_of, link_rows, links_faults}
use Rattle.fx_topology.specs.Reports.{has_place, report_faults, report_of, report_rows}
use Rattle.fx_topology.specs.Networks.{devices_of, network_faults, network_of, network_rows}
use Rattle.fx_plan.specs.Tables.{net_of, cache_holders, processes_from, processes_in, processes_of, held_by}
use Rattle.fx_plan.specs.Plans.{IsResolved}

-- ---- labels that are there

found_step : (b : Bool) (n m : ℕ) (rest : Bool) → (b || rest) ≡ true → (rest ≡ true → n < m) → cond (not b) (1 + n) 0
    < suc m
found_step true n m rest h next = omega arith
found_step false n m rest h next = let lt : n < m = next h in omega arith

pub found_within : {X : Type 0} (p : X → Bool) (xs : List X) → list_any p xs ≡ true → position_or_len p xs < length xs
found_within p [] h = cc
found_within p (x ∷ xs) h = found_step (p x) (position_or_len p xs) (length xs) (list_any p xs) h (found_within p xs)

pub named_there : {X : Type 0} (name_of : X → List ℕ) (device name own : List ℕ) (things : List X) → bytes_eq own device
    ≡ true → is_among (map name_of things) name ≡ true
    → list_any (is_label device name) (device_labels name_of own things) ≡ true
named_there name_of device name own [] e h = h
named_there name_of device name own (x ∷ xs) e h =
    elim (or_cases (bytes_eq (name_of x) name) (is_among (map name_of xs) name) h) [
      | inl f ↦ or_left (bytes_eq own device && bytes_eq (name_of x) name) _
          (and_from (bytes_eq own device) (bytes_eq (name_of x) name) e f)
      | inr f ↦ or_right (bytes_eq own device && bytes_eq (name_of x) name) _
          (named_there name_of device name own xs e f)
    ]

label_there : (devices : List NetworkDevice) (device name : List ℕ)
    → has_collecting_process name (device_named devices device) ≡ true
    → list_any (is_label device name) (collecting_labels devices) ≡ true
label_there [] device name h = h
label_there (x ∷ xs) device name h =
    let here = device_labels (λ (p : CollectingProcess). p.name) x.name x.config.collecting_processes in
    list_any-append (is_label device name) here (collecting_labels xs)
    ∙ (elim (cases_Bool (bytes_eq x.name device)) [
      | inl e ↦
          or_left (list_any (is_label device name) here) (list_any (is_label device name) (collecting_labels xs))
          (named_there (λ (p : CollectingProcess). p.name) device name x.name x.config.collecting_processes e
          (subst (λ (o : Option Device). has_collecting_process name o ≡ true)
          (cond-true (bytes_eq x.name device) (Some x.config) (device_named xs device) e) h))
      | inr e ↦
          or_right (list_any (is_label device name) here) (list_any (is_label device name) (collecting_labels xs))
          (label_there xs device name (subst (λ (o : Option Device). has_collecting_process name o ≡ true)
          (cond-false (bytes_eq x.name device) (Some x.config) (device_named xs device) e) h))
    ])

pub place_there : (devices : List NetworkDevice) (device name : List ℕ)
    → has_collecting_process name (device_named devices device) ≡ true → place (collecting_labels devices) device name
    < length (collecting_labels devices)
place_there devices device name h = found_within (is_label device name) (collecting_labels devices)
    (label_there devices device name h)

-- ---- as many labels as processes

pub so_many_from : (exporting : List Label) (device : List ℕ) (holder : ℕ) (processes : List CollectingProcess)
    → length (processes_from exporting device holder processes) ≡ length processes
so_many_from exporting device holder [] = refl
so_many_from exporting device holder (p ∷ ps) =
    ap suc (so_many_from exporting device (holder + length p.aggregations) ps)

abbrev pub label_of : List ℕ → CollectingProcess → Label
label_of device p = record { device = device; name = p.name }

so_many_in : (exporting : List Label) (holder : ℕ) (devices : List NetworkDevice)
    → length (processes_in exporting holder devices) ≡ length (collecting_labels devices)
so_many_in exporting holder [] = refl
so_many_in exporting holder (x ∷ xs) =
    let front = so_many_from exporting x.name holder x.config.collecting_processes in
    let rest = so_many_in exporting (holder + length (held_by exporting x.name x.config.collecting_processes)) xs in
    let here = device_labels (λ (p : CollectingProcess). p.name) x.name x.config.collecting_processes in
    let named : length here ≡ length x.config.collecting_processes =
    length-map x.config.collecting_processes (label_of x.name) in
    length-append (processes_from exporting x.name holder x.config.collecting_processes)
    (processes_in exporting (holder + length (held_by exporting x.name x.config.collecting_processes)) xs)
    ∙ (rw (front, rest, ← named) refl ∙ sym (length-append here (collecting_labels xs)))

-- ---- documents without a fault

pub rows_none : (may : List ℕ → Bool) (rows : List Row) (up : List ℕ) (d : Data) (o : Option Members)
    → of_kind o (λ ms. others may up ms ++ row_faults rows up d) up ≡ [] → row_faults rows up d ≡ []
rows_none may rows up d None h = absurd cc
rows_none may rows up d (Some ms) h = none_behind (others may up ms) (row_faults rows up d) h

pub rows_behind : (n : ℕ) (rows : List Row) (up : List ℕ) (d : Data) → row_faults rows up d ≡ []
    → row_faults (drop n rows) up d ≡ []
rows_behind zero rows up d h = h
rows_behind (suc n) [] up d h = h
rows_behind (suc n) (row ∷ rows) up d h =
    rows_behind n rows up d (none_behind (row.faults up d) (row_faults rows up d) h)

unless_fault : (b : Bool) (n : ℕ) (up : List ℕ) → fault_if (not b) n up ≡ [] → b ≡ true
unless_fault true n up h = refl
unless_fault false n up h = absurd cc

in_length : (least most : ℕ) (up : List ℕ) (n : ℕ) (rest : List FoundFault) → by_length 103 115 least most up n rest
    ≡ [] → rest ≡ []
in_length least most up n rest h =
    elim (chosen (nat_lt most n) ((115, up) ∷ []) (cond (nat_lt n least) ((103, up) ∷ []) rest) [] h) [
      | inl w ↦ cc
      | inr w ↦ elim (chosen (nat_lt n least) ((103, up) ∷ []) rest [] w.1) [ inl v ↦ cc | inr v ↦ v.1 ]
    ]

pub kind_none : (least most : ℕ) (faults : List ℕ → List Data → List FoundFault) (up : List ℕ) (o : Option (List Data))
    → of_kind o (λ ds. by_length 103 115 least most up (length ds) (faults up ds)) up ≡ [] → faults up (unwrap_or o [])
    ≡ []
kind_none least most faults up None h = cc
kind_none least most faults up (Some ds) h = in_length least most up (length ds) (faults up ds) h

pub list_none : (least most : ℕ) (faults : List ℕ → List Data → List FoundFault) (up name : List ℕ) (o : Option Data)
    → faults_or_missing (list_faults least most faults) up name o ≡ []
    → faults (below up name) (items_of (unwrap_or o null)) ≡ []
list_none least most faults up name None h = cc
list_none least most faults up name (Some d) h = kind_none least most faults (below up name) (items_in d) h

-- ---- links and the report

link_ends : (devices : List NetworkDevice) (earlier : List NamedLink) (up : List ℕ) (d : Data)
    → link_faults devices earlier up d ≡ [] → has_ends devices (link_of d) ≡ true
link_ends devices earlier up d h =
    let rows = rows_none (is_listed (listed_in (link_rows devices earlier))) (link_rows devices earlier) up d
    (as_object d) h in
    unless_fault (has_ends devices (link_of d)) 201 up
    (none_before (fault_if (not (has_ends devices (link_of d))) 201 up)
    (row_faults (drop 6 (link_rows devices earlier)) up d) (rows_behind 5 (link_rows devices earlier) up d rows))

links_lead : (devices : List NetworkDevice) (earlier : List NamedLink) (up : List ℕ) (i : ℕ) (ds : List Data)
    → links_faults devices earlier up i ds ≡ [] → (k p : ℕ)
    → slice_get (map (λ link. place (collecting_labels devices) link.to_device link.to_process) (map link_of ds)) k
    ≡ Some p → p < length (collecting_labels devices)
links_lead devices earlier up i [] h k p e = cc
links_lead devices earlier up i (d ∷ ds) h zero p e =
    let both = and_parts (has_destination (link_of d).exporting_process (link_of d).destination
    (device_named devices (link_of d).device))
    (has_collecting_process (link_of d).to_process (device_named devices (link_of d).to_device))
    (link_ends devices earlier (nth up i) d
    (none_before (link_faults devices earlier (nth up i) d)
    (links_faults devices (earlier ++ link_of d ∷ []) up (i + 1) ds) h)) in
    let is : place (collecting_labels devices) (link_of d).to_device (link_of d).to_process ≡ p = cc in
    subst (λ (x : ℕ). x < length (collecting_labels devices)) is
    (place_there devices (link_of d).to_device (link_of d).to_process both.1)
links_lead devices earlier up i (d ∷ ds) h (suc k) p e =
    links_lead devices (earlier ++ link_of d ∷ []) up (i + 1) ds
    (none_behind (link_faults devices earlier (nth up i) d)
    (links_faults devices (earlier ++ link_of d ∷ []) up (i + 1) ds) h) k p e

report_there : (devices : List NetworkDevice) (up name : List ℕ) (o : Option Data)
    → faults_or_missing (report_faults devices) up name o ≡ [] → has_place devices (report_of (unwrap_or o null)) ≡ true
report_there devices up name None h = cc
report_there devices up name (Some d) h =
    let at = below up name in
    let rows = rows_none (is_listed (listed_in (report_rows devices))) (report_rows devices) at d (as_object d) h in
    unless_fault (has_place devices (report_of d)) 205 at
    (none_before (fault_if (not (has_place devices (report_of d))) 205 at)
    (row_faults (drop 4 (report_rows devices)) at d) (rows_behind 3 (report_rows devices) at d rows))

-- ---- the network

pub resolved : (d : Data) → network_faults [] d ≡ [] → IsResolved (net_of (network_of d))
unfolding net_of
resolved d h =
    let devices = devices_of d in
    let rows = rows_none (is_listed (listed_in (network_rows devices))) (network_rows devices) [] d (as_object d) h in
    let links = none_before _ (row_faults (drop 3 (network_rows devices)) [] d)
    (rows_behind 2 (network_rows devices) [] d rows) in
    let report = none_before _ (row_faults (drop 4 (network_rows devices)) [] d)
    (rows_behind 3 (network_rows devices) [] d rows) in
    let count : length (processes_of devices) ≡ length (collecting_labels devices) =
    so_many_in (exporting_labels devices) (length (cache_holders (exporting_labels devices) devices)) devices in
    let all = list_none 0 link_limit (λ up ds. links_faults devices [] up 0 ds) [] (codes "links")
    (get (codes "links") d) links in
    let there = report_there devices [] (codes "report") (get (codes "report") d) report in
    record {
      leads = λ link p e. rw count (links_lead devices [] (below [] (codes "links")) 0
          (items_of (member_of (codes "links") d)) all link p e);
      report = rw count (place_there devices (report_of (member_of (codes "report") d)).device
          (report_of (member_of (codes "report") d)).collecting_process there);
    }
